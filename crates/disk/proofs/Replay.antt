-- One more call in a log.
use Rattle.std.proofs.Common.{◌≡◌, ℕ, ◌+◌, ◌≤◌, List, [], ◌∷◌, ◌++◌, length, take, refl, sym, ◌∙◌, ap, subst, arith, length-append}
use Rattle.std.specs.Prelude.{Bool, true, false, if◌then◌else◌, Vec}
use Rattle.std.specs.declared.alloc.Global.{Global}
use Rattle.std.proofs.lemmas.List.{take-append-le, take_all}
use Rattle.disk.specs.declared.slot.Slot.{Slot}
use Rattle.disk.specs.declared.log.LoggedCall.{LoggedCall}
use Rattle.disk.specs.declared.log.LoggedCall.TheVariants.{Write, Sync}
use Rattle.disk.specs.Slots.{Slots, slot_of, with_slot, written_at, TornWrite}
use Rattle.disk.specs.Moments.{View, Passes, Follows, MayLeave}
use Rattle.disk.specs.Log.{within, seen_after, left_after, replayed, outcomes, view_of}

pub replayed-push : (first : Slots) (log : List LoggedCall) (call : LoggedCall)
    → replayed first (log ++ call ∷ []) ≡ seen_after call (replayed first log)
unfolding replayed
replayed-push first [] call = refl
replayed-push first (x ∷ log) call = replayed-push (seen_after x first) log call

outcomes_of_push : (P : Slots → Type 0) (first : Slots) (log : List LoggedCall) (call : LoggedCall) (c : Slots)
    → outcomes P first (log ++ call ∷ []) c → left_after call (replayed first log) (outcomes P first log) c
unfolding replayed outcomes
outcomes_of_push P first [] call c left = left
outcomes_of_push P first (x ∷ log) call c left =
    outcomes_of_push (left_after x first P) (seen_after x first) log call c left

pub outcomes_of_left : (P : Slots → Type 0) (first : Slots) (log : List LoggedCall) (call : LoggedCall) (c : Slots)
    → left_after call (replayed first log) (outcomes P first log) c → outcomes P first (log ++ call ∷ []) c
unfolding replayed outcomes
outcomes_of_left P first [] call c left = left
outcomes_of_left P first (x ∷ log) call c left =
    outcomes_of_left (left_after x first P) (seen_after x first) log call c left

module _ (first : Slots) (log : List LoggedCall) (call : LoggedCall) (new_log : List LoggedCall)
    (logged : new_log ≡ log ++ call ∷ []) where
  -- what is read stays the replay of the log
  pub replayed_on : (seen new : Slots) → seen ≡ replayed first log → new ≡ seen_after call seen
      → new ≡ replayed first new_log
  replayed_on seen new is after =
      after ∙ ap (seen_after call) is ∙ sym (replayed-push first log call) ∙ ap (replayed first) (sym logged)

  -- the moments so far stay as they were, and the call adds one
  pub passes_on : (seen new : Slots) → seen ≡ replayed first log
      → Passes (view_of first log seen) (view_of first new_log new)
      (left_after call seen (MayLeave (view_of first log seen)))
  passes_on seen new is =
      let longer : length new_log ≡ length log + 1 = ap length logged ∙ length-append log (call ∷ []) in
      let front = λ (k : ℕ) (le : k ≤ length log). ap (take k) logged ∙ take-append-le k log (call ∷ []) le in
      let outcomes_at : List LoggedCall → Slots → Type 0 = outcomes (λ d. d ≡ first) first in
      record {
        later = omega arith;
        past = λ k c le. (subst (λ l. outcomes_at l c) (front k le), subst (λ l. outcomes_at l c) (sym (front k le)));
        since = λ k c after le left.
            let whole : take k new_log ≡ log ++ call ∷ [] = take_all k new_log (omega arith) ∙ logged in
            let step = outcomes_of_push (λ d. d ≡ first) first log call c (subst (λ l. outcomes_at l c) whole left) in
            let kept : log ≡ take (length log) log = sym (take_all (length log) log (omega arith)) in
            subst (λ s. left_after call s (outcomes_at (take (length log) log)) c) (sym is)
            (subst (λ l. left_after call (replayed first log) (outcomes_at l) c) kept step);
      }

  -- the post-crash contents are all that the call allows
  pub leaves_all : (seen new : Slots) → seen ≡ replayed first log → (c : Slots)
      → left_after call seen (MayLeave (view_of first log seen)) c → MayLeave (view_of first new_log new) c
  leaves_all seen new is c left =
      let outcomes_at : List LoggedCall → Slots → Type 0 = outcomes (λ d. d ≡ first) first in
      let kept : take (length log) log ≡ log = take_all (length log) log (omega arith) in
      let step =
      subst (λ s. left_after call s (outcomes_at log) c) is
      (subst (λ l. left_after call seen (outcomes_at l) c) kept left) in
      let whole : log ++ call ∷ [] ≡ take (length new_log) new_log =
      sym (take_all (length new_log) new_log (omega arith) ∙ logged) in
      subst (λ l. outcomes_at l c) whole (outcomes_of_left (λ d. d ≡ first) first log call c step)

-- the same whether the log had room for the call, or stays as it is
pub replayed_unless_full : (first seen : Slots) (log new_log : List LoggedCall) (slot : Slot) (fits : Bool)
    → new_log ≡ (if fits then log ++ Sync slot ∷ [] else log) → seen ≡ replayed first log
    → seen ≡ replayed first new_log
replayed_unless_full first seen log new_log slot true logged is =
    replayed_on first log (Sync slot) new_log logged seen seen is refl
replayed_unless_full first seen log new_log slot false logged is = is ∙ ap (replayed first) (sym logged)

module _ (first : Slots) (log : List LoggedCall) (slot : Slot) (new_log : List LoggedCall) where
  -- how a write and a sync change the post-crash contents
  pub write_passes : (at : ℕ) (copy : Vec ℕ Global) (is_done : Bool) (bytes : List ℕ) (seen new : Slots)
      → new_log ≡ log ++ Write slot at copy is_done ∷ [] → at ≤ length (slot_of seen slot)
      → length copy.items ≡ length bytes → seen ≡ replayed first log
      → Passes (view_of first log seen) (view_of first new_log new)
      (Follows (view_of first log seen) slot (TornWrite at (length bytes)))
  write_passes at copy is_done bytes seen new logged le same is =
      let begins : within seen slot at ≡ at = omega arith in
      let range : (m n : ℕ) → m ≡ at → n ≡ length bytes
      → Passes (view_of first log seen) (view_of first new_log new)
      (Follows (view_of first log seen) slot (TornWrite m n))
      → Passes (view_of first log seen) (view_of first new_log new)
      (Follows (view_of first log seen) slot (TornWrite at (length bytes))) =
      λ m n here long time. subst
      (λ k. Passes (view_of first log seen) (view_of first new_log new)
      (Follows (view_of first log seen) slot (TornWrite k (length bytes)))) here
      (subst (λ k. Passes (view_of first log seen) (view_of first new_log new)
      (Follows (view_of first log seen) slot (TornWrite m k))) long time) in
      range (within seen slot at) (length copy.items) begins same
      (passes_on first log (Write slot at copy is_done) new_log logged seen new is)

  pub write_leaves_all : (at : ℕ) (copy : Vec ℕ Global) (is_done : Bool) (bytes : List ℕ) (seen new : Slots)
      → new_log ≡ log ++ Write slot at copy is_done ∷ [] → at ≤ length (slot_of seen slot)
      → length copy.items ≡ length bytes → seen ≡ replayed first log → (c : Slots)
      → Follows (view_of first log seen) slot (TornWrite at (length bytes)) c → MayLeave (view_of first new_log new) c
  write_leaves_all at copy is_done bytes seen new logged le same is c left =
      let begins : at ≡ within seen slot at = omega arith in
      leaves_all first log (Write slot at copy is_done) new_log logged seen new is c
      (subst (λ n. Follows (view_of first log seen) slot (TornWrite (within seen slot at) n) c) (sym same)
      (subst (λ k. Follows (view_of first log seen) slot (TornWrite k (length bytes)) c) begins left))

  pub sync_passes : (seen new : Slots) → new_log ≡ log ++ Sync slot ∷ [] → seen ≡ replayed first log
      → Passes (view_of first log seen) (view_of first new_log new)
      (λ c. MayLeave (view_of first log seen) c × (slot_of c slot ≡ slot_of seen slot))
  sync_passes seen new logged is = passes_on first log (Sync slot) new_log logged seen new is

  pub sync_narrows : (seen new : Slots) → new_log ≡ log ++ Sync slot ∷ [] → seen ≡ replayed first log → (c : Slots)
      → MayLeave (view_of first new_log new) c → slot_of c slot ≡ slot_of seen slot
  sync_narrows seen new logged is c left =
      let longer : length new_log ≡ length log + 1 = ap length logged ∙ length-append log (Sync slot ∷ []) in
      ((sync_passes seen new logged is).since (length new_log) c (omega arith) (omega arith) left).1

-- what a write within the slot does
pub write_after : (seen new : Slots) (slot : Slot) (at : ℕ) (copy : Vec ℕ Global) (is_done : Bool) (bytes : List ℕ)
    → at ≤ length (slot_of seen slot) → copy.items ≡ bytes
    → new ≡ (if is_done then with_slot seen slot (written_at (slot_of seen slot) at bytes) else seen)
    → new ≡ seen_after (Write slot at copy is_done) seen
write_after seen new slot at copy true bytes le same is =
    let begins : within seen slot at ≡ at = omega arith in
    is ∙ sym (ap (λ b. with_slot seen slot (written_at (slot_of seen slot) (within seen slot at) b)) same ∙ ap
    (λ n. with_slot seen slot (written_at (slot_of seen slot) n bytes)) begins)
write_after seen new slot at copy false bytes le same is = is

-- what a crash may leave satisfies a weaker property too
pub passes_less : (old new : View) (P Q : Slots → Type 0) → Passes old new P → ((c : Slots) → P c → Q c)
    → Passes old new Q
passes_less old new P Q time less =
    record { later = time.later; past = time.past; since = λ k c after le left. less c (time.since k c after le left) }

-- before the first call
pub replayed_none : (first seen : Slots) (log : List LoggedCall) → log ≡ [] → seen ≡ first → seen ≡ replayed first log
unfolding replayed
replayed_none first seen log none is = is ∙ ap (replayed first) (sym none)

pub nothing_else : (first slots : Slots) (log : List LoggedCall) → log ≡ [] → first ≡ slots → (c : Slots)
    → outcomes (λ d. d ≡ first) first (take (length log) log) c → c ≡ slots
unfolding outcomes
nothing_else first slots log none is c left =
    subst (λ l. outcomes (λ d. d ≡ first) first (take (length l) l) c) none left ∙ is
