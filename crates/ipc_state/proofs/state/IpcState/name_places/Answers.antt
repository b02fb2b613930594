use Rattle.std.proofs.Common.{ℕ, ◌≡◌, ◌∙◌, subst, sym}
use Rattle.ipc_state.specs.Running.{Running}
use Rattle.ipc_state.specs.Waking.{IsSetListed}
use Rattle.spaces.specs.Noted.{entry_at_place}
use Rattle.waiting.specs.Places.{Named, names}
use Rattle.waiting.specs.Waiting.{Covers}
use Rattle.ipc_state.proofs.Covering.{all_cover, covers, kept_or, more_set}
use Rattle.ipc_state.proofs.state.IpcState.name_places.Goals as goal

pub returns : goal.returns
returns c =
    let spaces = c.self.inside.spaces in
    let ports = c.self.inside.ports in
    let listed : Named → ℕ → Type 0 = λ p n. IsSetListed (names p) spaces.current ports.current.ports n in
    subst (λ (r : Running). Covers r.before r.current (names c.name_ports.new.places)) c.self.view_is
    (covers spaces.before spaces.current ports.before ports.current
    (names c.name_ports.new.places) c.name_names.ensures.small.0 c.name_names.ensures.small.1
    (kept_or (λ n. entry_at_place spaces.current n ≡ entry_at_place spaces.before n) (listed c.name_names.new.places)
    (listed c.name_ports.new.places)
    (λ n is. more_set c.name_names.new.places c.name_ports.new.places spaces.current ports.current.ports n
    c.name_ports.ensures.kept is) c.name_names.ensures.listed) c.name_ports.ensures.listed)

pub returns-then-are_all : goal.returns-then-are_all
returns-then-are_all c =
    all_cover c.args.self.now.before c.args.self.now.current c.args.places.now
    (sym c.are_all.ensures ∙ c.if-are_all.true)
