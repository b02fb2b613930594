use Rattle.std.proofs.Common.{◌≡◌, ℕ, ◌+◌, ap, sym, subst, ◌∙◌, arith}
use Rattle.std.specs.FinMap.{remove}
use Rattle.spaces.specs.Slots.{SpaceMap, TrackedSpaces, names_changed}
use Rattle.spaces.specs.Walks.{Emptied, one_emptied, all_emptied}
use Rattle.spaces.proofs.spaces.Spaces.remove.Goals as goal

went : (before spaces after : SpaceMap) (space name next : ℕ)
    → after ≡ names_changed spaces space (λ names. remove names name) → next ≡ name
    → Emptied before (names_changed spaces space (λ names. remove names name)) space (name + 1)
    → Emptied before after space (next + 1)
went before spaces after space name next is same emptied =
    subst (λ (s : SpaceMap). Emptied before s space (next + 1)) (sym is)
    (subst (λ (n : ℕ). Emptied before (names_changed spaces space (λ names. remove names name)) space (n + 1))
    (sym same) emptied)

pub loop-name-preserved : goal.loop-name-preserved
loop-name-preserved c =
    let done = c.in_ok-remove_name.ensures.ok in
    let emptied =
    one_emptied c.args.self.now.current c.loop-name.self.current c.args.space c.loop-name.at c.in-Some.name
    c.in-Some.field-0-1 c.in-Some.ensures.next c.loop-name.invariant.emptied in
    record {
      emptied =
          went c.args.self.now.current c.loop-name.self.current c.remove_name.new.self.current c.args.space
          c.in-Some.name c.from-at.result (ap (λ (t : TrackedSpaces). t.current) done) c.from-at.ensures emptied;
      before = ap (λ (t : TrackedSpaces). t.before) done ∙ c.loop-name.invariant.before;
      fits = omega (arith, c.from-at.ensures, c.in-Some.ensures.fits);
    }

pub close-requires : goal.close-requires
close-requires c =
    record {
      empty = all_emptied c.args.self.now.current c.loop-name.self.current c.args.space c.loop-name.at
          c.in_default.ensures.next c.loop-name.invariant.emptied;
    }
