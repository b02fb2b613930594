-- Each change of a space's names keeps the bounds.
use Rattle.std.proofs.Common.{◌≡◌, ℕ, ◌^◌, ◌<◌, Bool, true, false, cond, None, Some, is_some, refl, sym, ◌∙◌, ap, subst, arith}
use Rattle.std.specs.Cmp.{nat_cmp_total}
use Rattle.std.specs.Ordering.{nat_cmp, eq_by_cmp}
use Rattle.std.specs.FinMap.{FinMap, get, insert, remove, len, empty, get-empty, get-insert, get-remove, len-empty}
use Rattle.codes.specs.declared.limits.TheConstants.{MAX_NAMES}
use Rattle.ipc_model.specs.declared.entry.Entry.{Entry}
use Rattle.ipc_laws.specs.ListLaws.{some_same}
use Rattle.ipc_laws.specs.MapSums.{key_is}
use Rattle.port_space.specs.References.{AreBounded, AreFewReferences}
use Rattle.port_space.specs.Crowded.{within_after_insert, within_after_remove}

abbrev Names : Type 0
Names = FinMap {K = ℕ} nat_cmp Entry

pub bounded_empty : AreBounded empty
bounded_empty = record {
  few = let none = len-empty nat_cmp Entry in omega arith;
  each =
      λ name entry is. let none : is_some (get {X = Entry} {R = nat_cmp} empty name)
      ≡ false = ap is_some (get-empty nat_cmp name) in absurd (cc (none, is));
}

pub bounded_insert : (names : Names) (name : ℕ) (entry : Entry) → AreBounded names
    → (get names name ≡ None → len names < MAX_NAMES) → name < 2 ^ 32 → AreFewReferences entry
    → AreBounded (insert names name entry)
bounded_insert names name entry bounded room small few_references = record {
  few = within_after_insert names name entry MAX_NAMES bounded.few room;
  each =
      λ other found is. by_case other found (eq_by_cmp nat_cmp other name) refl
      (sym (get-insert nat_cmp_total names name entry other) ∙ is);
}
  where
    by_case : (other : ℕ) (found : Entry) (b : Bool) → eq_by_cmp nat_cmp other name ≡ b
        → cond b (Some entry) (get names other) ≡ Some found → (other < 2 ^ 32) × AreFewReferences found
    by_case other found true same is = (
      subst (λ n. n < 2 ^ 32) (sym (key_is other name same)) small,
      subst AreFewReferences (some_same entry found is) few_references,
    )
    by_case other found false same is = bounded.each other found is

pub bounded_remove : (names : Names) (name : ℕ) → AreBounded names → AreBounded (remove names name)
bounded_remove names name bounded = record {
  few = within_after_remove names name MAX_NAMES bounded.few;
  each =
      λ other found is. by_case other found (eq_by_cmp nat_cmp other name)
      (sym (get-remove nat_cmp_total names name other) ∙ is);
}
  where
    by_case : (other : ℕ) (found : Entry) (b : Bool) → cond b None (get names other) ≡ Some found → (other < 2 ^ 32)
        × AreFewReferences found
    by_case other found true is = absurd (cc is)
    by_case other found false is = bounded.each other found is
