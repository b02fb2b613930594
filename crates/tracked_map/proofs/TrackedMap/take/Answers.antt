use Rattle.std.proofs.Common.{◌++◌, ◌∷◌, [], List, Some, None, true, false, refl, ap, sym, ◌∙◌, arith}
use Rattle.std.specs.FinMap as map
use Rattle.tracked_map.specs.Tracked.{Tracked, over, shown}
use Rattle.tracked_map.proofs.Laws.{both, got, is_put, more_removed, none_removed, put_sound}
use Rattle.tracked_map.proofs.TrackedMap.take.Goals as goal

pub returns-in_default-clause-ok : goal.returns-in_default-clause-ok
returns-in_default-clause-ok g c =
    let slots = c.self.inside.slots in
    both _ _ _ _ (ap (λ m. over (shown m) c.reserve.new.self.items) c.in_default.ensures.slots
    ∙ ap (over (shown slots)) c.reserve.ensures.items)
    (ap shown c.in_default.ensures.slots ∙ sym (none_removed slots c.args.key (sym c.in_default.ensures.value)))
    ∙ ap (λ (t : Tracked _). record { before = t.before; current = map.remove t.current c.args.key }) c.self.view_is

pub overflow_sub-self : goal.overflow_sub-self
overflow_sub-self g c =
    let done =
    is_put c.self.inside.slots c.take_value.new.slots c.self.inside.former.items _ c.args.key None
    (Some c.in-Some.before) c.self.inside.len true false
    c.in-Some.ensures.slots refl c.in-Some.ensures.value c.self.invariant.0.counted refl refl in
    omega (arith, done.there refl)

pub invariant_of-self-2 : goal.invariant_of-self-2
invariant_of-self-2 g c =
    let noted =
    c.push_reserved.ensures.items ∙ ap
    (λ (l : List _). l ++ (c.args.key, Some c.in-Some.before) ∷ []) c.reserve.ensures.items in (
      put_sound c.self.inside.slots c.take_value.new.slots c.self.inside.former.items c.push_reserved.new.self.items
          c.args.key None (Some c.in-Some.before) c.self.inside.len c.self.inside.len_before true false
          c.in-Some.ensures.slots noted c.self.invariant.0
          (is_put c.self.inside.slots c.take_value.new.slots c.self.inside.former.items c.push_reserved.new.self.items
          c.args.key None (Some c.in-Some.before) c.self.inside.len true false
          c.in-Some.ensures.slots noted c.in-Some.ensures.value c.self.invariant.0.counted refl refl),
      λ honest. more_removed c.self.inside.slots c.take_value.new.slots c.self.inside.removed.items
          c.push_reserved-2.new.self.items c.args.key c.in-Some.ensures.slots
          (c.push_reserved-2.ensures.items ∙ ap (λ (l : List _). l ++ c.args.key ∷ []) c.reserve-2.ensures.items)
          (c.self.invariant.1 honest),
    )

pub returns-clause-ok : goal.returns-clause-ok
returns-clause-ok g c =
    let noted =
    c.push_reserved.ensures.items ∙ ap
    (λ (l : List _). l ++ (c.args.key, Some c.in-Some.before) ∷ []) c.reserve.ensures.items in
    let done =
    is_put c.self.inside.slots c.take_value.new.slots c.self.inside.former.items c.push_reserved.new.self.items
    c.args.key None (Some c.in-Some.before) c.self.inside.len true false
    c.in-Some.ensures.slots noted c.in-Some.ensures.value c.self.invariant.0.counted refl refl in
    both _ _ _ _ done.unwound done.shows ∙ ap
    (λ (t : Tracked _). record { before = t.before; current = map.remove t.current c.args.key }) c.self.view_is

pub returns-in_default-clause-before : goal.returns-in_default-clause-before
returns-in_default-clause-before g c =
    got c.self.inside.slots c.args.key (map.get c.self.inside.slots c.args.key) None refl
    (sym c.in_default.ensures.value) ∙ ap (λ (t : Tracked _). map.get t.current c.args.key) c.self.view_is

pub returns-clause-before : goal.returns-clause-before
returns-clause-before g c =
    got c.self.inside.slots c.args.key (map.get c.self.inside.slots c.args.key) (Some c.in-Some.before) refl
    (sym c.in-Some.ensures.value) ∙ ap (λ (t : Tracked _). map.get t.current c.args.key) c.self.view_is
