use Rattle.std.proofs.Common.{List, ℕ, map, sym, ◌∙◌, ap, subst}
use Rattle.std.specs.Prelude.{IsPermutation}
use Rattle.std.proofs.lemmas.List.Sorted.{IsNonDecreasingBy-from_sort}
use Rattle.snapshot.specs.Rows.{serial_of}
use Rattle.snapshot_loading.proofs.receivers.are_received_once.Goals as goal

pub returns-clause-others : goal.returns-clause-others
returns-clause-others c = λ no. record {
  sorted = c.sort_unstable.new.self.items;
  moved =
      subst (λ (xs : List ℕ). IsPermutation xs c.sort_unstable.new.self.items) c.in_ok-received.ensures
      c.sort_unstable.ensures.permutation;
  ascend = IsNonDecreasingBy-from_sort (λ (x : ℕ). x) c.sort_unstable.new.self.items c.sort_unstable.ensures.sorted;
  other =
      λ same. cc (sym no ∙ c.are_serials.ensures.1
      (c.as_slice.ensures.value ∙ same ∙ sym (ap (map serial_of) c.as_slice-2.ensures)));
}
