-- How a call changes its session.
use Rattle.std.proofs.Common.{◌≡◌, ℕ, ◌+◌, ◌<◌, ◌≤◌, Bool, true, false, List, [], ◌∷◌, ◌++◌, length, take, Some, refl, sym, ap, subst, ◌∙◌, inl, inr, arith, length-append}
use Rattle.std.specs.Prelude.{if◌then◌else◌, option_map, slice_get}
use Rattle.std.proofs.lemmas.List.{append-nil}
use Rattle.std.proofs.lemmas.Bool.{cases_lt}
use Rattle.std.proofs.lemmas.Option.{slice_get-map}
use Rattle.std.proofs.Math.Seq.{take-length}
use Rattle.history.proofs.Beginnings.{begins_length, begins_more, begins_trans}
use Rattle.history.specs.Entries.{Begins, records_of}
use Rattle.history.specs.Pasts.{PastValue}
use Rattle.history.specs.declared.entry.Entry.{Entry}
use Rattle.ipc_model.specs.calls.Step.{Step, Steps, has_record}
use Rattle.ipc_model.specs.declared.call.Call.{Call}
use Rattle.ipc_model.specs.declared.record.Record.{Record}
use Rattle.ipc_model.specs.history.History.{called, space_after}
use Rattle.ipc_model.specs.state.State.{State}
use Rattle.store_half.specs.phases.Passed.{unrecorded_step}
use Rattle.keepers.specs.Keeping.{Applies, entries_of_call}
use Rattle.keepers.specs.Tokens.{SessionValue, AreOwn, Did, IsSession, entry_by, session_of}
use Rattle.keepers.proofs.Calling.{counted}
use Rattle.keepers.proofs.Histories.{did_session, got_pushed, own_further, own_more}
use Rattle.system.specs.Halves.{TicketValue}

-- a session that was given a ticket, whose task is attached to this space, has seen this, and whose places are these
abbrev pub calling : SessionValue → PastValue → ℕ → List ℕ → SessionValue
calling old past space places =
    record {
      number = old.number;
      past = past;
      task = record {
        space = space;
        seen = length past.entries;
        acknowledged = old.task.acknowledged;
        tickets = old.task.tickets ++ length past.entries ∷ [];
        places = places;
      };
    }

module _ (base : State) (old : SessionValue) (c : Call) (ticket : TicketValue) (past : PastValue)
    (old_made new_made : ℕ) (did : Applies base old.number old.task.space old.past.entries c ticket past.entries
    old_made new_made)
    (seen : old.task.seen ≡ length old.past.entries) where
  entry : Entry
  entry = entry_by old.number old.task.space c ticket.answer

  grew_by : (b : Bool) → has_record c ticket.answer ≡ b
      → past.entries ≡ did.before ++ (if b then entry_by old.number old.task.space c ticket.answer ∷ [] else [])
  grew_by b is =
      did.after_is ∙ ap (λ (b : Bool). did.before
      ++ (if b then entry_by old.number old.task.space c ticket.answer ∷ [] else [])) is

  is_recorded : (b : Bool) → has_record c ticket.answer ≡ b → old_made < length past.entries → b ≡ true
  is_recorded true is grew = refl
  is_recorded false is grew =
      absurd (omega (arith, grew, did.old_counted, ap length (grew_by false is ∙ append-nil did.before)))

  not_recorded : (b : Bool) → has_record c ticket.answer ≡ b → length past.entries ≤ old_made → b ≡ false
  not_recorded true is same =
      absurd (omega (
        arith,
        same,
        did.old_counted,
        ap length (grew_by true is),
        length-append did.before (entry_by old.number old.task.space c ticket.answer ∷ []),
      ))
  not_recorded false is same = refl

  begins : Begins old.past.entries past.entries
  begins =
      subst (Begins old.past.entries) (sym did.after_is)
      (begins_trans old.past.entries did.before
      (did.before ++ entries_of_call old.number old.task.space c ticket) did.begins
      (begins_more did.before (entries_of_call old.number old.task.space c ticket)))

  long : old.task.seen ≤ length did.before
  long = omega (arith, seen, begins_length old.past.entries did.before did.begins)

  there : has_record c ticket.answer ≡ true
      → slice_get past.entries old_made ≡ Some (entry_by old.number old.task.space c ticket.answer)
  there is =
      (λ i. slice_get (grew_by true is i) (did.old_counted i))
      ∙ got_pushed did.before (entry_by old.number old.task.space c ticket.answer)

  -- a call with a record
  pub recorded_did : old_made < length past.entries
      → Did base old (called c ticket.answer) (calling old past old.task.space (old.task.places ++ old_made ∷ []))
  recorded_did grew =
      let is = is_recorded (has_record c ticket.answer) refl grew in
      record {
        after = record {
          leads = inl (record {
            recorded = is;
            place = old_made;
            unseen = omega (arith, long, did.old_counted);
            there =
                slice_get-map (λ (e : Entry). e.«record») past.entries old_made
                ∙ ap (option_map (λ (e : Entry). e.«record»)) (there is);
            seen = grew;
            after = refl;
          });
          more = omega (arith, long, did.old_counted, grew);
          within = omega (arith, counted past.entries);
        };
        begins = begins;
        same = refl;
      }

  pub recorded_own : old_made < length past.entries → AreOwn old.past.entries old.number old.task.places
      → AreOwn past.entries old.number (old.task.places ++ old_made ∷ [])
  recorded_own grew own =
      own_more past.entries old.number old.task.places old_made
      (ap (option_map (λ (e : Entry). e.session)) (there (is_recorded (has_record c ticket.answer) refl grew)))
      (own_further old.past.entries past.entries old.number old.task.places begins own)

  -- and a call without a record
  pub answered_did : length past.entries ≤ old_made
      → Did base old (called c ticket.answer)
      (calling old past (space_after old.task.space c ticket.answer) old.task.places)
  answered_did none =
      let is = not_recorded (has_record c ticket.answer) refl none in
      let same : past.entries ≡ did.before = grew_by false is ∙ append-nil did.before in
      let all : take (length past.entries) (records_of past.entries) ≡ records_of did.before =
      ap (λ (n : ℕ). take n (records_of past.entries)) (sym (counted past.entries))
      ∙ take-length (records_of past.entries) ∙ ap records_of same in
      record {
        after = record {
          leads = inr (record {
            unrecorded = is;
            beginning = length past.entries;
            unseen = omega (arith, long, ap length same);
            state = did.kernel;
            run = subst (λ (l : List Record). Steps base l did.kernel) (sym all) did.run;
            answered =
                subst (λ (s : State). Step did.kernel old.task.space c ticket.answer s)
                (unrecorded_step did.kernel old.task.space c ticket.answer did.next did.step is) did.step;
            seen = omega arith;
            after = refl;
          });
          more = omega (arith, long, ap length same);
          within = omega (arith, counted past.entries);
        };
        begins = begins;
        same = refl;
      }

  pub answered_own : AreOwn old.past.entries old.number old.task.places → AreOwn past.entries old.number old.task.places
  answered_own own = own_further old.past.entries past.entries old.number old.task.places begins own

  -- how many records there are then
  recorded_count : old_made < length past.entries → new_made ≡ old_made + 1
  recorded_count grew =
      omega (
        arith,
        did.new_counted,
        did.old_counted,
        ap length (grew_by true (is_recorded (has_record c ticket.answer) refl grew)),
        length-append did.before (entry_by old.number old.task.space c ticket.answer ∷ []),
      )

  answered_count : length past.entries ≤ old_made → new_made ≡ old_made
  answered_count same =
      omega (
        arith,
        did.new_counted,
        did.old_counted,
        ap length (grew_by false (not_recorded (has_record c ticket.answer) refl same) ∙ append-nil did.before),
      )

  pub book_counts : (total_before total : ℕ) → total_before ≡ old_made
      → (old_made < length past.entries → total ≡ total_before + 1)
      → (length past.entries ≤ old_made → total ≡ total_before) → total ≡ new_made
  book_counts total_before total counted recorded answered = elim (cases_lt old_made (length past.entries)) [
    | inl grew ↦ recorded grew ∙ ap (λ (n : ℕ). n + 1) counted ∙ sym (recorded_count grew)
    | inr same ↦ answered same ∙ counted ∙ sym (answered_count same)
  ]

  -- Its session is still a session, in the space and with the places that its card then has.
  pub called_session : (amount number space acknowledged more : ℕ) (tickets places : List ℕ) → number ≡ old.number
      → acknowledged ≡ old.task.acknowledged → tickets ≡ old.task.tickets ++ length past.entries ∷ []
      → (old_made < length past.entries → (space ≡ old.task.space) × (places ≡ old.task.places ++ old_made ∷ [])
      × (more ≡ amount + 1))
      → (length past.entries ≤ old_made → (space ≡ space_after old.task.space c ticket.answer)
      × (places ≡ old.task.places) × (more ≡ amount)) → IsSession base old amount
      → IsSession base (session_of number space acknowledged tickets places past) more
      × Did base old (called c ticket.answer) (session_of number space acknowledged tickets places past)
  called_session amount number space acknowledged more tickets places same kept given recorded answered is =
      elim (cases_lt old_made (length past.entries)) [
        | inl grew ↦ own_state_as number space acknowledged more tickets places old.task.space
            (old.task.places ++ old_made ∷ []) same (recorded grew).0 kept given (recorded grew).1 (
              did_session base old (called c ticket.answer)
                  (calling old past old.task.space (old.task.places ++ old_made ∷ [])) amount more did.history is
                  (recorded_did grew) refl (recorded_own grew is.own)
                  (omega (arith, (recorded grew).2, is.counted, length-append old.task.places (old_made ∷ []))),
              recorded_did grew,
            )
        | inr none ↦ own_state_as number space acknowledged more tickets places
            (space_after old.task.space c ticket.answer) old.task.places same (answered none).0 kept given
            (answered none).1 (
              did_session base old (called c ticket.answer)
                  (calling old past (space_after old.task.space c ticket.answer) old.task.places) amount more
                  did.history is
                  (answered_did none) refl (answered_own is.own) ((answered none).2 ∙ is.counted),
              answered_did none,
            )
      ]
    where
      own_state_as : (number space acknowledged more : ℕ) (tickets places : List ℕ) (space_is : ℕ) (places_are : List ℕ)
          → number ≡ old.number → space ≡ space_is → acknowledged ≡ old.task.acknowledged
          → tickets ≡ old.task.tickets ++ length past.entries ∷ [] → places ≡ places_are
          → IsSession base (calling old past space_is places_are) more
          × Did base old (called c ticket.answer) (calling old past space_is places_are)
          → IsSession base (session_of number space acknowledged tickets places past) more
          × Did base old (called c ticket.answer) (session_of number space acknowledged tickets places past)
      own_state_as number space acknowledged more tickets places space_is places_are zero one two given three both =
          subst (λ (v : SessionValue). IsSession base v more × Did base old (called c ticket.answer) v)
          (λ i. session_of (sym zero i) (sym one i) (sym two i) (sym given i) (sym three i) past) both
