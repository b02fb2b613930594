use Rattle.std.proofs.Common.{◌≤◌, List, ◌++◌, ◌∷◌, [], refl, ap, sym, subst, ◌∙◌, Some, true}
use Rattle.std.specs.Option.{option_flatten}
use Rattle.std.specs.FinMap.{get, insert}
use Rattle.tracked_map.specs.Tracked.{Tracked, IsSound, len_after}
use Rattle.tracked_map.proofs.Laws.{both, is_put, got, neither, put_sound, set_removed}
use Rattle.tracked_map.proofs.TrackedMap.replace.Goals as goal

pub len_with-self-inside-requires : goal.len_with-self-inside-requires
len_with-self-inside-requires g c =
    subst (λ n. len_after c.self.inside.len c.is_some.result true ≤ n) (sym c.len.ensures)
    ((is_put c.self.inside.slots c.insert.new.self c.self.inside.former.items
    (c.self.inside.former.items ++ (c.args.key, c.flatten-before.result) ∷ []) c.args.key
    (Some c.args.value) c.flatten-before.result c.self.inside.len c.is_some.result true
    c.in_ok-found.ensures.ok refl (c.flatten-before.ensures ∙ ap option_flatten c.in_ok-found.ensures.before)
    c.self.invariant.0.counted c.is_some.ensures refl).few)

pub invariant_of-self-2 : goal.invariant_of-self-2
invariant_of-self-2 g c =
    let done =
    is_put c.self.inside.slots c.insert.new.self c.self.inside.former.items c.push_reserved.new.self.items
    c.args.key (Some c.args.value) c.flatten-before.result c.self.inside.len c.is_some.result true
    c.in_ok-found.ensures.ok (c.push_reserved.ensures.items ∙ ap
    (λ (l : List _). l ++ (c.args.key, c.flatten-before.result) ∷ []) c.reserve.ensures.items)
    (c.flatten-before.ensures ∙ ap option_flatten c.in_ok-found.ensures.before) c.self.invariant.0.counted
    c.is_some.ensures refl in (
      subst (λ n. IsSound c.insert.new.self c.push_reserved.new.self.items n c.self.inside.len_before)
          (sym c.len_with-self-inside.ensures)
          (put_sound c.self.inside.slots c.insert.new.self c.self.inside.former.items c.push_reserved.new.self.items
          c.args.key (Some c.args.value) c.flatten-before.result c.self.inside.len c.self.inside.len_before
          c.is_some.result true
          c.in_ok-found.ensures.ok (c.push_reserved.ensures.items ∙ ap
          (λ (l : List _). l ++ (c.args.key, c.flatten-before.result) ∷ []) c.reserve.ensures.items)
          c.self.invariant.0 done),
      λ honest. set_removed c.self.inside.slots c.insert.new.self c.self.inside.removed.items c.args.key c.args.value
          c.in_ok-found.found c.in_ok-found.ensures.before
          (sym c.is_mark.ensures ∙ (neither c.self.inside.is_refilled c.is_mark.result
          (sym c.either-self-inside.ensures ∙ honest)).1) c.in_ok-found.ensures.ok
          (c.self.invariant.1 (neither c.self.inside.is_refilled c.is_mark.result
          (sym c.either-self-inside.ensures ∙ honest)).0),
    )

pub returns-clause-ok : goal.returns-clause-ok
returns-clause-ok g c =
    let done =
    is_put c.self.inside.slots c.insert.new.self c.self.inside.former.items c.push_reserved.new.self.items
    c.args.key (Some c.args.value) c.flatten-before.result c.self.inside.len c.is_some.result true
    c.in_ok-found.ensures.ok (c.push_reserved.ensures.items ∙ ap
    (λ (l : List _). l ++ (c.args.key, c.flatten-before.result) ∷ []) c.reserve.ensures.items)
    (c.flatten-before.ensures ∙ ap option_flatten c.in_ok-found.ensures.before) c.self.invariant.0.counted
    c.is_some.ensures refl in
    both _ _ _ _ done.unwound done.shows ∙ ap
    (λ (t : Tracked _). record { before = t.before; current = insert t.current c.args.key c.args.value })
    c.self.view_is

pub returns-clause-before : goal.returns-clause-before
returns-clause-before g c =
    got c.self.inside.slots c.args.key c.in_ok-found.found c.flatten-before.result c.in_ok-found.ensures.before
    (sym c.flatten-before.ensures) ∙ ap (λ (t : Tracked _). get t.current c.args.key) c.self.view_is
