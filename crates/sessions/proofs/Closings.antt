-- Sessions that belong to one history, once it is closed.
use Rattle.std.proofs.Common.{◌≡◌, ℕ, zero, suc, ◌<◌, ◌≤◌, List, [], ◌∷◌, length, take, drop, map, refl, sym, ap, subst, ◌∙◌, arith}
use Rattle.std.specs.Prelude.{All, AllPairs}
use Rattle.std.proofs.lemmas.List.{take-append-le}
use Rattle.disk.specs.Slots.{Slots}
use Rattle.history.proofs.Beginnings.{begins_records, begins_records_length}
use Rattle.history.specs.Entries.{Begins, records_of}
use Rattle.history.specs.declared.entry.Entry.{Entry}
use Rattle.ipc_laws.specs.HistoryLaws.{legal_is_in_order, legal_stays_legal}
use Rattle.ipc_model.specs.calls.Step.{Run}
use Rattle.ipc_model.specs.declared.record.Record.{Record}
use Rattle.ipc_model.specs.history.History.{Session, Sessions, AllLegal, AreAll, AreApart, Legal, places_of}
use Rattle.ipc_model.specs.state.State.{State}
use Rattle.keepers.proofs.Apart.{AreForeign, apart_alongside, foreign_both, foreign_to, none_apart, none_foreign}
use Rattle.keepers.proofs.Calling.{counted}
use Rattle.keepers.proofs.Histories.{own_further}
use Rattle.keepers.specs.Belonging.{AllBelong, Belongs, tasks_of}
use Rattle.keepers.specs.Tokens.{SessionValue, IsHistory}
use Rattle.sessions.specs.Closing.{AreLegal}
use Rattle.keepers.specs.Storing.{StandsFor}

module _ (base : State) (entries : List Entry) (stored : ℕ) where
  -- what holds of each that belongs
  pub all_of : (P : SessionValue → Type 0) → ((last : ℕ) (s : SessionValue) → Belongs base entries stored last s → P s)
      → (last : ℕ) (sessions : List SessionValue) → AllBelong base entries stored last sessions → All P sessions
  all_of P holds last [] belong k d within = absurd (omega (arith, within))
  all_of P holds last (s ∷ sessions) belong zero d within = holds last s belong.0
  all_of P holds last (s ∷ sessions) belong (suc k) d within =
      all_of P holds s.number sessions belong.1 k d (omega (arith, within))

  -- The numbers ascend.
  greater : (last : ℕ) (sessions : List SessionValue) → AllBelong base entries stored last sessions
      → All (λ s. last < s.number) sessions
  greater last [] belong k d within = absurd (omega (arith, within))
  greater last (s ∷ sessions) belong zero d within = belong.0.ascends
  greater last (s ∷ sessions) belong (suc k) d within =
      omega (arith, belong.0.ascends, greater s.number sessions belong.1 k d (omega (arith, within)))

  pub all_ascend : (last : ℕ) (sessions : List SessionValue) → AllBelong base entries stored last sessions
      → AllPairs (λ one other. one.number < other.number) sessions
  all_ascend last [] belong i j d before within = absurd (omega (arith, within))
  all_ascend last (s ∷ sessions) belong zero zero d before within = absurd (omega (arith, before))
  all_ascend last (s ∷ sessions) belong zero (suc j) d before within =
      greater s.number sessions belong.1 j d (omega (arith, within))
  all_ascend last (s ∷ sessions) belong (suc i) zero d before within = absurd (omega (arith, before))
  all_ascend last (s ∷ sessions) belong (suc i) (suc j) d before within =
      all_ascend s.number sessions belong.1 i j d (omega (arith, before)) (omega (arith, within))

  -- No place belongs to two.

  foreign_to_all : (number last : ℕ) (sessions : List SessionValue) → number ≤ last
      → AllBelong base entries stored last sessions → AreForeign entries number (places_of (tasks_of sessions))
  foreign_to_all number last [] less belong = none_foreign entries number
  foreign_to_all number last (s ∷ sessions) less belong =
      foreign_both entries number s.task.places (places_of (tasks_of sessions))
      (foreign_to entries number s.number s.task.places
      (λ same. absurd (omega (arith, same, less, belong.0.ascends)))
      (own_further s.past.entries entries s.number s.task.places belong.0.begins belong.0.is.own))
      (foreign_to_all number s.number sessions (omega (arith, less, belong.0.ascends)) belong.1)

  pub all_apart : (last : ℕ) (sessions : List SessionValue) → AllBelong base entries stored last sessions
      → AreApart (tasks_of sessions)
  all_apart last [] belong = none_apart
  all_apart last (s ∷ sessions) belong =
      let is = belong.0.is in
      let order = legal_is_in_order base (records_of s.past.entries) is.operations s.task is.legal in
      apart_alongside entries s.number 0 s.task.seen s.task.places (places_of (tasks_of sessions)) order.places
      (own_further s.past.entries entries s.number s.task.places belong.0.begins is.own)
      (foreign_to_all s.number s.number sessions (omega arith) belong.1) (all_apart s.number sessions belong.1)

  -- They are legal in the whole history.

  legal_in : (last : ℕ) (s : SessionValue) → (b : Belongs base entries stored last s)
      → Legal base (records_of entries) b.is.operations s.task
  legal_in last s b =
      subst (λ (l : List Record). Legal base l b.is.operations s.task)
      (sym (begins_records s.past.entries entries b.begins))
      (legal_stays_legal base (records_of s.past.entries)
      (records_of (drop (length s.past.entries) entries)) b.is.operations s.task b.is.legal)

  each_legal : (last : ℕ) (sessions : List SessionValue) → AllBelong base entries stored last sessions
      → (each : Sessions) × (map (λ s. s.1) each ≡ tasks_of sessions) × AllLegal base (records_of entries) each
  each_legal last [] belong = ([], refl, tt)
  each_legal last (s ∷ sessions) belong =
      let rest = each_legal s.number sessions belong.1 in (
        (belong.0.is.operations, s.task) ∷ rest.0,
        ap (λ (l : List Session). s.task ∷ l) rest.1,
        (legal_in last s belong.0, rest.2),
      )

  pub all_legal : IsHistory base entries → (last : ℕ) (sessions : List SessionValue)
      → AllBelong base entries stored last sessions → AreLegal base entries sessions
  all_legal history last sessions belong =
      let found = each_legal last sessions belong in
      record {
        each = found.0;
        theirs = found.1;
        legal = record {
          end = history.state;
          run = history.run;
          legal = found.2;
          apart = subst AreApart (sym found.1) (all_apart last sessions belong);
        };
      }

-- There are as many records as places of all sessions.
pub are_all : (entries : List Entry) (sessions : List SessionValue)
    → length (places_of (tasks_of sessions)) ≡ length entries → AreAll (records_of entries) (tasks_of sessions)
are_all entries sessions same = omega (arith, same, counted entries)

-- What stood for the state after some records of a prefix still stands for it.
pub stands_in : (base : State) (known entries : List Entry) (stored : ℕ) (c : Slots) → Begins known entries
    → StandsFor base stored (records_of known) c → StandsFor base stored (records_of entries) c
stands_in base known entries stored c begins (k, more, within, (state, run, stands)) =
    let front : take k (records_of entries) ≡ take k (records_of known) =
    ap (take k) (begins_records known entries begins)
    ∙ take-append-le k (records_of known) (records_of (drop (length known) entries)) within in (
      k,
      more,
      omega (arith, within, begins_records_length known entries begins),
      (state, subst (λ (l : List Record). Run base l state) (sym front) run, stands),
    )
