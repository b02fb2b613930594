-- Any number of consecutive crashes, each during an opening.
use Rattle.std.proofs.Common.{inl, inr, List, [], ◌∷◌, All, sym, subst, arith}
use Rattle.std.proofs.lemmas.List.Elements.{All-cons, All-nil}
use Rattle.disk.proofs.Moments.{later_or_now, left_now}
use Rattle.disk.specs.Moments.{View, LeftSince, MayLeave, Passes}
use Rattle.disk.specs.Slots.{Slots, empty_slots}
use Rattle.ipc_model.specs.state.State.{State, opening_state}
use Rattle.store_layout.specs.Gates.{HaveLastGates, StandForState}
use Rattle.recover.proofs.Gates.{shut_has_gate}
use Rattle.recover.proofs.Stages.{IsFresh, fresh_gates, fresh_recovered}
use Rattle.recover.specs.Crashing.{AlwaysLeaves, AreStopped, CrashesKeep, IsStopped, LeavesSame, StandForSame}

-- the contents that a crash left since an opening began, even before it wrote
left_same : (old new : View) (c : Slots) → Passes old new (LeavesSame old) → LeftSince new old.moment c
    → LeavesSame old c
left_same old new c time left = elim (later_or_now old.moment left.0 left.1) [
  | inl later ↦ time.since left.0 c later left.2 left.3
  | inr now ↦ inl (subst (λ k. old.left_at k c) now ((time.past left.0 c (omega (arith, now))).0 left.3))
]

-- P holds of slots that represent the same states, and slots with P have their last gate
module _ {D : Type 0} (view : D → View) (lasts : (disk : D) → MayLeave (view disk) (view disk).seen)
    (P : Slots → Type 0) (gates : (s : Slots) → P s → HaveLastGates s)
    (moves : (s c : Slots) → P s → StandForSame s c → P c) where
  same_kept : (old : D) → AlwaysLeaves P (view old) → (c : Slots) → LeavesSame (view old) c → P c
  same_kept old always c same = elim same as (λ _. P c) [
    | inl left ↦ always c left
    | inr stands ↦ moves (view old).seen c (always (view old).seen (lasts old)) stands
  ]

  one_crash : (old next : D) → AlwaysLeaves P (view old) → IsStopped view old next → AlwaysLeaves P (view next)
  one_crash old next always stopped =
      let last = stopped.0 in
      let time : Passes (view old) (view last) (LeavesSame (view old)) =
      stopped.1 (gates (view old).seen (always (view old).seen (lasts old))) in
      elim stopped.2 as (λ _. AlwaysLeaves P (view next)) [
        | inl same ↦ subst (λ (disk : D). AlwaysLeaves P (view disk)) (sym same) (λ c left.
            elim (left_now (view old) (view last) (LeavesSame (view old)) time c left) as (λ _. P c)
            [ inl before ↦ always c before | inr since ↦ same_kept old always c since ])
        | inr crash ↦ λ c left. subst P (sym (crash.0 c left))
            (same_kept old always (view next).seen (left_same (view old) (view last) (view next).seen time crash.1))
      ]

  pub all_crashes : (disks : List D) (old : D) → AlwaysLeaves P (view old) → AreStopped view old disks
      → All (λ disk. AlwaysLeaves P (view disk)) disks
  all_crashes [] old always stopped = All-nil (λ disk. AlwaysLeaves P (view disk))
  all_crashes (next ∷ disks) old always stopped =
      let first = one_crash old next always stopped.0 in
      All-cons (λ disk. AlwaysLeaves P (view disk)) next disks first (all_crashes disks next first stopped.1)

-- slots that represent the same states as slots with this state have this state
pub same_stands : (state : State) (s c : Slots) → StandForState state s → StandForSame s c → StandForState state c
same_stands state s c stands same = record { recovered = same.0 state stands.recovered; gates = same.1 }

pub crashes_keep_state : {D : Type 0} (view : D → View) → ((disk : D) → MayLeave (view disk) (view disk).seen)
    → (state : State) → CrashesKeep view (StandForState state)
crashes_keep_state view lasts state old disks always stopped =
    all_crashes view lasts (StandForState state) (λ s stands. stands.gates) (same_stands state) disks old always stopped

-- a store that was never in use
pub empty_stand : StandForState opening_state empty_slots
empty_stand =
    let fresh : IsFresh empty_slots = record {
      image0 = λ is_open. absurd (omega (arith, is_open.0));
      image1 = λ is_open. absurd (omega (arith, is_open.0));
      segment0 = λ is_open. absurd (omega (arith, is_open.0));
      segment1 = λ is_open. absurd (omega (arith, is_open.0));
    } in
    record {
      recovered = fresh_recovered empty_slots fresh;
      gates = fresh_gates empty_slots fresh (shut_has_gate [] (λ is_open. absurd (omega (arith, is_open.0))));
    }
