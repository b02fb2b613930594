use Rattle.std.proofs.Common.{◌≡◌, ℕ, Option, option_and_then, refl, sym, ◌∙◌, ap, subst, arith}
use Rattle.std.specs.FinMap.{get, insert}
use Rattle.ipc_model.specs.state.Ipc.{port_held}
use Rattle.port_space.specs.Alongside.{with_port, without_port}
use Rattle.ipc_model.specs.declared.entry.Entry.{Entry}
use Rattle.tracked_map.specs.Tracked.{Tracked}
use Rattle.port_space.specs.Tables.{AreSmall}
use Rattle.port_space.proofs.Standing.{put_used, small_insert}
use Rattle.port_space.proofs.tables.Tables.put.Goals as goal

pub next_unused-self-requires : goal.next_unused-self-requires
next_unused-self-requires c = record {
  small =
      subst (λ (t : Tracked Entry). AreSmall t.current) (sym c.in_ok-former.ensures.ok)
      (small_insert c.args.self.now.names.current c.from-key.result c.args.entry c.requires.small
      (omega (arith, c.from-key.ensures)));
  fits = omega (arith, c.from-key.ensures, c.ranges.name.fits);
}

pub returns-then-is_some-clause-ok : goal.returns-then-is_some-clause-ok
returns-then-is_some-clause-ok c =
    let now = c.args.self.now in
    let at : c.from-key.result ≡ c.args.name = c.from-key.ensures in
    let names =
    ap (λ (t : Tracked Entry). t.current) c.in_ok-former.ensures.ok ∙ ap
    (λ (k : ℕ). insert now.names.current k c.args.entry) at in
    let held =
    ap (λ (o : Option ℕ). with_port (without_port now.by_port.current o c.args.name) c.port_held.result c.args.name)
    c.held_by.ensures
    ∙ ap (λ (o : Option ℕ). with_port
    (without_port now.by_port.current (option_and_then port_held c.in_ok-former.former) c.args.name) o c.args.name)
    c.port_held.ensures in
    put_used now _ c.args.name c.args.entry c.in_ok-former.former c.requires.free
    (c.in_ok-former.ensures.before ∙ ap (get now.names.current) at) (sym c.is_some.ensures ∙ c.if-is_some.true)
    names (c.in_ok-change_port.ensures.ok ∙ held) refl refl
