-- What is between the halves.
use Rattle.std.proofs.Common.{◌≡◌, ◌⊎◌, inl, inr, ℕ, ◌+◌, ◌≤◌, ◌<◌, Bool, true, false, [], ◌∷◌, ◌++◌, Option, None, Some, refl, sym, subst, arith}
use Rattle.std.specs.Prelude.{is_none}
use Rattle.store_half.specs.epoch_log.Logs.{TakenValue}
use Rattle.ipc_model.specs.world.World as world
use Rattle.ipc_model.specs.world.World.{of_append, of_finish}
use Rattle.system.specs.Core.{BatchBetween, Between, NothingBetween, ReceiptBetween, in_turn}

pub some_is : {A : Type 0} (a b : A) → Some a ≡ Some b → a ≡ b
some_is a b e = cc e

module _ (batch : Option world.Batch) (taken stored handed : ℕ) (P : ℕ → TakenValue → Type 0) where
  pub handed_within : (out : Option TakenValue) (receipt : Option ℕ) (b : Bool)
      → Between batch taken stored handed P out receipt b → (handed ≤ stored) × (stored ≤ taken)
  handed_within None None false between = (omega (arith, between.handed_is), omega (arith, between.taken_is))
  handed_within None None true between = absurd between
  handed_within (Some out) None true between = (omega (arith, between.handed_is), omega (arith, between.taken_is))
  handed_within (Some out) None false between = absurd between
  handed_within None (Some size) true between = (omega (arith, between.handed_is), omega (arith, between.taken_is))
  handed_within None (Some size) false between = absurd between
  handed_within (Some out) (Some size) b between = absurd between

  pub nothing_out : (out : Option TakenValue) (receipt : Option ℕ) (b : Bool) → b ≡ false
      → Between batch taken stored handed P out receipt b → NothingBetween batch taken stored handed × (out ≡ None)
      × (receipt ≡ None)
  nothing_out None None b is between = (subst (Between batch taken stored handed P None None) is between, refl, refl)
  nothing_out None (Some size) b is between =
      absurd (subst (Between batch taken stored handed P None (Some size)) is between)
  nothing_out (Some out) None b is between =
      absurd (subst (Between batch taken stored handed P (Some out) None) is between)
  nothing_out (Some out) (Some size) b is between = absurd between

  pub batch_is_out : (one : TakenValue) (out : Option TakenValue) (receipt : Option ℕ) (b : Bool) → out ≡ Some one
      → Between batch taken stored handed P out receipt b → BatchBetween batch taken stored handed P one
      × (receipt ≡ None) × (b ≡ true)
  batch_is_out one None receipt b is between = absurd (cc is)
  batch_is_out one (Some other) None true is between =
      (subst (BatchBetween batch taken stored handed P) (some_is other one is) between, refl, refl)
  batch_is_out one (Some other) None false is between = absurd between
  batch_is_out one (Some other) (Some size) b is between = absurd between

  pub receipt_is_out : (size : ℕ) (out : Option TakenValue) (receipt : Option ℕ) (b : Bool) → receipt ≡ Some size
      → Between batch taken stored handed P out receipt b → ReceiptBetween batch taken stored handed size × (out ≡ None)
      × (b ≡ true)
  receipt_is_out size out None b is between = absurd (cc is)
  receipt_is_out size None (Some other) true is between =
      (subst (ReceiptBetween batch taken stored handed) (some_is other size is) between, refl, refl)
  receipt_is_out size None (Some other) false is between = absurd between
  receipt_is_out size (Some out) (Some other) b is between = absurd between

  pub some_batch : (out : Option TakenValue) (receipt : Option ℕ) → Between batch taken stored handed P out receipt true
      → batch ≡ None → ⊥
  some_batch None None between none = between
  some_batch (Some out) None between none = absurd (cc (sym none, between.batch_is))
  some_batch None (Some size) between none = absurd (cc (sym none, between.batch_is))
  some_batch (Some out) (Some size) between none = between

  -- the same batch, with its place described in another way
  pub between_with : (Q : ℕ → TakenValue → Type 0)
      → ((size : ℕ) (out : TakenValue) → 0 < size → stored + size ≤ taken → P size out → Q size out)
      → (out : Option TakenValue) (receipt : Option ℕ) (b : Bool)
      → Between batch taken stored handed P out receipt b → Between batch taken stored handed Q out receipt b
  between_with Q other None None false between = between
  between_with Q other None None true between = absurd between
  between_with Q other (Some out) None true between = record {
    size = between.size;
    some = between.some;
    batch_is = between.batch_is;
    taken_is = between.taken_is;
    handed_is = between.handed_is;
    placed = other between.size out between.some (omega (arith, between.taken_is)) between.placed;
  }
  between_with Q other (Some out) None false between = absurd between
  between_with Q other None (Some size) true between = between
  between_with Q other None (Some size) false between = absurd between
  between_with Q other (Some out) (Some size) b between = absurd between

  -- where no batch is to be stored
  pub none_to_append : (receipt : Option ℕ) (b : Bool) → Between batch taken stored handed P None receipt b
      → (one : world.Batch) → batch ≡ Some one → one.appended ≡ false → ⊥
  none_to_append None false between one is fresh = absurd (cc (sym is, between.batch_is))
  none_to_append None true between one is fresh = between
  none_to_append (Some size) true between one is fresh = absurd (cc (is, between.batch_is, fresh))
  none_to_append (Some size) false between one is fresh = between

-- The receipts that are out.

pub one_more_receipt : (size : ℕ) (finished : Option ℕ) (first : Bool)
    → in_turn None finished first ++ of_append size ∷ [] ≡ in_turn (Some size) finished true
one_more_receipt size None first = refl
one_more_receipt size (Some epoch) first = refl

pub one_finished_more : (epoch : ℕ) (receipt : Option ℕ) (first : Bool)
    → in_turn receipt None first ++ of_finish ∷ [] ≡ in_turn receipt (Some epoch) (is_none receipt)
one_finished_more epoch None first = refl
one_finished_more epoch (Some size) first = refl

-- a batch's receipt is the oldest
pub append_first : (size : ℕ) (finished : Option ℕ) (first : Bool) → (finished ≡ None) ⊎ (first ≡ false)
    → in_turn (Some size) finished first ≡ of_append size ∷ in_turn None finished first
append_first size None first oldest = refl
append_first size (Some epoch) false oldest = refl
append_first size (Some epoch) true oldest =
    elim oldest as (λ _. in_turn (Some size) (Some epoch) true ≡ of_append size ∷ in_turn None (Some epoch) true)
    [ inl none ↦ absurd (cc none) | inr is ↦ absurd (cc is) ]

-- an image's receipt is
pub finish_first : (epoch : ℕ) (receipt : Option ℕ) (first : Bool) → (receipt ≡ None) ⊎ (first ≡ true)
    → in_turn receipt (Some epoch) first ≡ of_finish ∷ in_turn receipt None first
finish_first epoch None first oldest = refl
finish_first epoch (Some size) true oldest = refl
finish_first epoch (Some size) false oldest =
    elim oldest as (λ _. in_turn (Some size) (Some epoch) false ≡ of_finish ∷ in_turn (Some size) None false)
    [ inl none ↦ absurd (cc none) | inr is ↦ absurd (cc is) ]
