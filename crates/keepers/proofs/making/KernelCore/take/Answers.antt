use Rattle.std.proofs.Common.{◌∙◌, ℕ, ◌+◌, ◌-◌, ◌<◌, ◌≤◌, nat_lt, List, sym, ap, subst, arith}
use Rattle.std.specs.Prelude.{◌^◌, MatchBool, option_map}
use Rattle.std.proofs.lemmas.List.{length-map}
use Rattle.history.specs.Pasts.{PastValue}
use Rattle.history.specs.declared.entry.Entry.{Entry}
use Rattle.keepers.specs.Keeping.{KernelCoreValue, IsKernelCore, first_number}
use Rattle.keepers.proofs.Cores.{canonical_again, kept_entries}
use Rattle.keepers.proofs.Taking.{taken_all, taken_bounds, taken_handed}
use Rattle.keepers.proofs.making.KernelCore.take.Goals as goal
use Rattle.keepers.specs.Storing.{IsLoad}

pub first_number-number-requires : goal.first_number-number-requires
first_number-number-requires g c =
    let s = c.self.inside in
    let t = c.in-Some.taken in
    let entries : List Entry = c.in_ok-past.past.entries in
    let there =
    ap (λ (v : KernelCoreValue). option_map (λ (p : PastValue). p.entries) v.past)
    (c.self.view_is ∙ c.again.ensures.same) ∙ c.in_ok-past.ensures.entries in
    let core =
    kept_entries (λ (l : List Entry). IsKernelCore g.L.Founding.base s.half l s.opened s.earlier s.taken s.older)
    s.past entries there c.self.invariant.2 in
    let takes = c.in-Some.ensures.taken in
    let bounds =
    taken_bounds g.L.Founding.base s.half c.take.new.self entries s.opened s.earlier s.taken s.older core t
    takes.some takes.which (omega (arith, c.log_length.ensures, c.log_length.type_inv)) in
    subst (λ (n : ℕ). MatchBool (nat_lt n c.epoch-epoch.result)
    ((s.taken ≤ s.earlier) × (s.earlier - s.taken ≤ s.older))
    ((s.earlier ≤ s.taken) × (s.opened + (s.taken - s.earlier) < 2 ^ 64))) (sym c.epoch.ensures)
    (subst (λ (n : ℕ). MatchBool (nat_lt t.epoch n) ((s.taken ≤ s.earlier) × (s.earlier - s.taken ≤ s.older))
    ((s.earlier ≤ s.taken) × (s.opened + (s.taken - s.earlier) < 2 ^ 64))) (sym c.epoch-epoch.ensures) bounds)

pub overflow_add-self : goal.overflow_add-self
overflow_add-self g c =
    let s = c.self.inside in
    let t = c.in-Some.taken in
    let entries : List Entry = c.in_ok-past.past.entries in
    let there =
    ap (λ (v : KernelCoreValue). option_map (λ (p : PastValue). p.entries) v.past)
    (c.self.view_is ∙ c.again.ensures.same) ∙ c.in_ok-past.ensures.entries in
    let core =
    kept_entries (λ (l : List Entry). IsKernelCore g.L.Founding.base s.half l s.opened s.earlier s.taken s.older)
    s.past entries there c.self.invariant.2 in
    let takes = c.in-Some.ensures.taken in
    let all =
    taken_all g.L.Founding.base s.half c.take.new.self entries s.opened s.earlier s.taken s.older core t takes.some
    takes.which in
    omega (
      arith,
      all.is_load.within,
      length-map entries (λ (e : Entry). e.«record»),
      c.len.ensures,
      c.len.type_inv,
      c.from.ensures,
      c.count.ensures,
    )

pub invariant_of-result : goal.invariant_of-result
invariant_of-result g c =
    let s = c.self.inside in
    let t = c.in-Some.taken in
    let entries : List Entry = c.in_ok-past.past.entries in
    let there =
    ap (λ (v : KernelCoreValue). option_map (λ (p : PastValue). p.entries) v.past)
    (c.self.view_is ∙ c.again.ensures.same) ∙ c.in_ok-past.ensures.entries in
    let core =
    kept_entries (λ (l : List Entry). IsKernelCore g.L.Founding.base s.half l s.opened s.earlier s.taken s.older)
    s.past entries there c.self.invariant.2 in
    let takes = c.in-Some.ensures.taken in
    let all =
    taken_all g.L.Founding.base s.half c.take.new.self entries s.opened s.earlier s.taken s.older core t takes.some
    takes.which in
    let number =
    c.first_number-number.ensures ∙
    (λ i. first_number s.opened s.earlier s.older s.taken
    (nat_lt (c.epoch.ensures i) (c.epoch-epoch.ensures i))) in
    subst (IsLoad g.L.Founding.base)
    (λ i. record {
      epoch = t.epoch;
      batch = t.batch;
      entries = entries;
      first = s.taken;
      number = sym number i;
    }) all.is_load

pub invariant_of-self-2 : goal.invariant_of-self-2
invariant_of-self-2 g c =
    let s = c.self.inside in
    let t = c.in-Some.taken in
    let entries : List Entry = c.in_ok-past.past.entries in
    let there =
    ap (λ (v : KernelCoreValue). option_map (λ (p : PastValue). p.entries) v.past)
    (c.self.view_is ∙ c.again.ensures.same) ∙ c.in_ok-past.ensures.entries in
    let core =
    kept_entries (λ (l : List Entry). IsKernelCore g.L.Founding.base s.half l s.opened s.earlier s.taken s.older)
    s.past entries there c.self.invariant.2 in
    let takes = c.in-Some.ensures.taken in
    let all =
    taken_all g.L.Founding.base s.half c.take.new.self entries s.opened s.earlier s.taken s.older core t takes.some
    takes.which in (
      taken_handed g.L.Founding.base s.half c.take.new.self entries s.opened s.earlier s.taken s.older core t takes.some
          takes.which ∙ c.self.invariant.0,
      omega (arith, c.self.invariant.1),
      canonical_again (λ (l : List Entry). IsKernelCore g.L.Founding.base s.half l s.opened s.earlier s.taken s.older)
          (λ (l : List Entry). IsKernelCore g.L.Founding.base c.take.new.self l s.opened s.earlier
          (s.taken + c.from.result) s.older) s.past entries there c.self.invariant.2
          (subst (λ (n : ℕ). IsKernelCore g.L.Founding.base c.take.new.self entries s.opened s.earlier
          (s.taken + n) s.older) (sym (c.from.ensures ∙ c.count.ensures)) all.core),
    )
