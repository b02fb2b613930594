-- A slot that is removed when its changes are committed or rolled back.
use Rattle.std.proofs.Common.{◌≡◌, ℕ, Bool, false, cond, Option, None, Some, is_some, sym, ◌∙◌, ap}
use Rattle.std.specs.Ordering.{nat_cmp}
use Rattle.std.specs.FinMap.{FinMap, get, insert, remove}
use Rattle.ipc_laws.specs.MapSums.{insert-same}
use Rattle.tracked_map.specs.Touched.{turned}

pub slot_gone : {X Y : Type 0} (look : Y → Option X) (turn : Y → Y) (slots next : FinMap {K = ℕ} nat_cmp Y) (key : ℕ)
    (slot : Y) → get slots key ≡ Some slot → is_some (look slot) ≡ false → next ≡ remove (insert slots key slot) key
    → next ≡ turned look turn slots key
slot_gone {X} {Y} look turn slots next key slot there none is =
    is ∙ ap (λ (m : FinMap {K = ℕ} nat_cmp Y). remove m key) (insert-same slots key slot there)
    ∙ go (get slots key) there
  where
    some_same : (s t : Y) → Some s ≡ Some t → s ≡ t
    some_same s t e = cc e

    go : (o : Option Y) → o ≡ Some slot
        → remove slots key ≡ elim o as (λ _. FinMap {K = ℕ} nat_cmp Y)
        [ None ↦ slots | Some s ↦ cond (is_some (look s)) (insert slots key (turn s)) (remove slots key) ]
    go None at = absurd (cc at)
    go (Some s) at =
        ap (λ (b : Bool). cond b (insert slots key (turn s)) (remove slots key))
        (sym (ap (λ (s : Y). is_some (look s)) (some_same s slot at) ∙ none))
