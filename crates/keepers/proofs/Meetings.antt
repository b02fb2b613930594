-- Two sessions of one history, of which one learns what the other has seen.
use Rattle.std.proofs.Common.{◌≡◌, ◌⊎◌, ℕ, ◌<◌, true, ◌++◌, length, drop, refl, sym, ap, subst, ◌∙◌, inl, inr, arith, length-append}
use Rattle.std.specs.Prelude.{Result, Ok, Err, OnOk, OnErr, max}
use Rattle.std.specs.Result.{is_ok}
use Rattle.std.proofs.lemmas.List.{length-drop}
use Rattle.history.proofs.Beginnings.{begins_itself, begins_length}
use Rattle.history.specs.Entries.{Begins, records_of}
use Rattle.history.specs.Pasts.{PastValue}
use Rattle.history.specs.declared.fault.CatchUpFault.{CatchUpFault}
use Rattle.ipc_laws.specs.HistoryLaws.{legal_is_in_order}
use Rattle.ipc_model.specs.state.State.{State}
use Rattle.keepers.specs.Tokens.{SessionValue, IsAfter, IsHistory, IsSession, Meets}
use Rattle.keepers.proofs.Apart.{two_apart}
use Rattle.keepers.proofs.Histories.{looking, looks, own_further, same_long}

-- What a session that is behind has seen, once it has learned or failed to.
abbrev pub Caught : PastValue → PastValue → PastValue → Type 0
Caught old ahead new = (new.entries ≡ ahead.entries) × Begins old.entries ahead.entries

module _ (old ahead new : PastValue) where
  pub caught : (r : Result (Unit {0}) CatchUpFault) → is_ok r ≡ true → IsAfter old ahead
      → OnOk r (new.entries ≡ old.entries ++ drop (length old.entries) ahead.entries)
      → OnOk r (Begins old.entries new.entries × Begins ahead.entries new.entries)
      → OnOk r (old.blocks < ahead.blocks → new ≡ ahead) → Caught old ahead new
  caught (Err fault) is beyond ok begins moved = absurd (cc is)
  caught (Ok _) is (inl earlier) ok begins moved =
      let same : new.entries ≡ ahead.entries = ap (λ (p : PastValue). p.entries) (moved earlier) in
      (same, subst (Begins old.entries) same begins.0)
  caught (Ok _) is (inr here) ok begins moved =
      let same : new.entries ≡ ahead.entries =
      same_long ahead.entries new.entries begins.1
      (omega (
        arith,
        ap length ok,
        length-append old.entries (drop (length old.entries) ahead.entries),
        length-drop (length old.entries) ahead.entries,
        here.1,
      )) in
      (same, subst (Begins old.entries) same begins.0)

  -- or nothing changed
  pub caught_or_same : (r : Result (Unit {0}) CatchUpFault) → IsAfter old ahead
      → OnOk r (new.entries ≡ old.entries ++ drop (length old.entries) ahead.entries)
      → OnOk r (Begins old.entries new.entries × Begins ahead.entries new.entries)
      → OnOk r (old.blocks < ahead.blocks → new ≡ ahead) → OnErr r (new ≡ old)
      → Caught old ahead new ⊎ (new ≡ old)
  caught_or_same (Ok done) beyond ok begins moved err = inl (caught (Ok done) refl beyond ok begins moved)
  caught_or_same (Err fault) beyond ok begins moved err = inr err

-- It is still a session.
pub learned : (base : State) (old : SessionValue) (ahead new : PastValue) (amount : ℕ) → IsSession base old amount
    → IsHistory base ahead.entries → Caught old.past ahead new ⊎ (new ≡ old.past)
    → IsSession base (looking old new) amount
learned base old ahead new amount is history (inl caught) =
    looks base old new amount (subst (IsHistory base) (sym caught.0) history) is
    (subst (Begins old.past.entries) (sym caught.0) caught.1)
learned base old ahead new amount is history (inr same) =
    looks base old new amount (subst (λ (p : PastValue). IsHistory base p.entries) (sym same) is.history) is
    (subst (λ (p : PastValue). Begins old.past.entries p.entries) (sym same) (begins_itself old.past.entries))

-- Both orders of the two.
pub met : (base : State) (old ahead : SessionValue) (new ahead_new : PastValue) (amount other : ℕ)
    → IsSession base old amount → IsSession base ahead other → (old.number ≡ ahead.number → ⊥) → ahead_new ≡ ahead.past
    → Caught old.past ahead.past new
    → Meets old ahead (looking old new) (looking ahead ahead_new)
    × Meets ahead old (looking ahead ahead_new) (looking old new)
met base old ahead new ahead_new amount other is is_too differ kept caught =
    let same : new.entries ≡ ahead_new.entries = caught.0 ∙ ap (λ (p : PastValue). p.entries) (sym kept) in
    let long : length new.entries ≡ length ahead.past.entries = ap length caught.0 in
    let stays : length ahead_new.entries ≡ length ahead.past.entries = ap (λ (p : PastValue). length p.entries) kept in
    let more = begins_length old.past.entries ahead.past.entries caught.1 in
    let begins = subst (Begins old.past.entries) (sym caught.0) caught.1 in
    let begins_too =
    subst (λ (p : PastValue). Begins ahead.past.entries p.entries) (sym kept) (begins_itself ahead.past.entries) in
    let own = own_further old.past.entries ahead.past.entries old.number old.task.places caught.1 is.own in
    let order = legal_is_in_order base (records_of old.past.entries) is.operations old.task is.legal in
    let order_too = legal_is_in_order base (records_of ahead.past.entries) is_too.operations ahead.task is_too.legal in
    let one_max : length new.entries ≡ max old.task.seen ahead.task.seen =
    omega (arith, long, more, is.seen, is_too.seen) in
    let other_max : length ahead_new.entries ≡ max old.task.seen ahead.task.seen =
    omega (arith, stays, more, is.seen, is_too.seen) in
    let turned_max : length new.entries ≡ max ahead.task.seen old.task.seen =
    omega (arith, long, more, is.seen, is_too.seen) in
    let turned_other : length ahead_new.entries ≡ max ahead.task.seen old.task.seen =
    omega (arith, stays, more, is.seen, is_too.seen) in (
      record {
        meet = record {
          one_sees = ap (λ (n : ℕ). record old.task { seen = n }) one_max;
          other_sees = ap (λ (n : ℕ). record ahead.task { seen = n }) other_max;
          apart =
              two_apart ahead.past.entries old.number ahead.number 0 old.task.seen 0 ahead.task.seen old.task ahead.task
              differ order.places own order_too.places is_too.own;
        };
        same = same;
        begins = begins;
        begins_too = begins_too;
        number = refl;
        number_too = refl;
      },
      record {
        meet = record {
          one_sees = ap (λ (n : ℕ). record ahead.task { seen = n }) turned_other;
          other_sees = ap (λ (n : ℕ). record old.task { seen = n }) turned_max;
          apart =
              two_apart ahead.past.entries ahead.number old.number 0 ahead.task.seen 0 old.task.seen ahead.task old.task
              (λ same. differ (sym same)) order_too.places is_too.own order.places own;
        };
        same = sym same;
        begins = begins_too;
        begins_too = begins;
        number = refl;
        number_too = refl;
      },
    )
