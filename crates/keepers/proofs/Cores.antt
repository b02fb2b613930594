-- What the lock of the kernel protects, as it changes.
use Rattle.std.proofs.Common.{◌≡◌, ◌⊎◌, ℕ, ◌≤◌, Bool, true, false, List, [], ◌∷◌, length, Option, None, Some, refl, sym, ap, subst, ◌∙◌, inl, inr, arith}
use Rattle.std.specs.Prelude.{Result, Ok, Err, IfOk, OnOk, OnErr, MatchOption, max, option_map, ◌++◌, if◌then◌else◌}
use Rattle.std.proofs.lemmas.List.{append-nil, length-map}
use Rattle.history.proofs.Beginnings.{begins_itself, begins_more, begins_trans}
use Rattle.history.specs.Entries.{Begins, records_of}
use Rattle.history.specs.Pasts.{PastValue}
use Rattle.history.specs.declared.entry.Entry.{Entry}
use Rattle.ipc_model.specs.calls.Step.{has_record}
use Rattle.ipc_model.specs.declared.call.Call.{Call}
use Rattle.ipc_model.specs.declared.reply.Reply.{Reply}
use Rattle.ipc_model.specs.declared.record.Record.{Record}
use Rattle.ipc_model.specs.history.History.{IsAcknowledgedUpTo, Leads, Session, has_ticket, redeemed, redeemed_for_another, redemption}
use Rattle.ipc_model.specs.state.State.{State}
use Rattle.keepers.specs.Keeping.{Applies, BothPastsValue, KernelCoreValue, IsKernelCore, Learns, both_learned, entries_of_call}
use Rattle.keepers.specs.Tokens.{IsHistory, entry_by, SessionValue, IsSession, session_of}
use Rattle.keepers.proofs.Calling.{applies, core_after}
use Rattle.keepers.proofs.Histories.{did_session}
use Rattle.system.specs.Halves.{Gives, KernelValue, TicketValue}

some_is : {A : Type 0} (a b : A) → Some a ≡ Some b → a ≡ b
some_is a b e = cc e

-- what holds of the history that is kept
pub kept_entries : (P : List Entry → Type 0) (past : Option PastValue) (entries : List Entry)
    → option_map (λ (p : PastValue). p.entries) past ≡ Some entries → MatchOption past ⊥ (λ p. P p.entries) → P entries
kept_entries P None entries is holds = absurd holds
kept_entries P (Some p) entries is holds = subst P (some_is p.entries entries is) holds

pub canonical_again : (P Q : List Entry → Type 0) (past : Option PastValue) (entries : List Entry)
    → option_map (λ (p : PastValue). p.entries) past ≡ Some entries → MatchOption past ⊥ (λ p. P p.entries) → Q entries
    → MatchOption past ⊥ (λ p. Q p.entries)
canonical_again P Q None entries is was holds = absurd was
canonical_again P Q (Some p) entries is was holds = subst Q (sym (some_is p.entries entries is)) holds

pub kept_some : (P : List Entry → Type 0) (past : Option PastValue) (kept : PastValue) → past ≡ Some kept
    → MatchOption past ⊥ (λ p. P p.entries) → P kept.entries
kept_some P past kept is holds =
    kept_entries P past kept.entries (ap (option_map (λ (p : PastValue). p.entries)) is) holds

pub core_history : (base : State) (half : KernelValue) (entries : List Entry) (opened earlier taken older : ℕ)
    → IsKernelCore base half entries opened earlier taken older → IsHistory base entries
core_history base half entries opened earlier taken older core = record { state = half.kernel; run = core.applied.run }

-- the history is kept once more
pub again_history : {E : Type 0} (base : State) (past : PastValue) (r : Result PastValue E)
    → IsHistory base past.entries → IfOk r (λ p. p ≡ past) → IfOk r (λ p. IsHistory base p.entries)
again_history base past (Ok p) history is = subst (λ (v : PastValue). IsHistory base v.entries) (sym is) history
again_history base past (Err e) history is = tt

-- a new session, which has seen all of a history
pub new_session : (base : State) (number : ℕ) (past : PastValue) (tickets places : List ℕ) (amount : ℕ) → tickets ≡ []
    → places ≡ [] → amount ≡ 0 → IsHistory base past.entries
    → IsSession base (session_of number 1 0 tickets places past) amount
new_session base number past tickets places amount no_ticket none nothing history =
    subst (λ (v : SessionValue). IsSession base v amount)
    (λ i. session_of number 1 0 (sym no_ticket i) (sym none i) past) (record {
      history = history;
      operations = [];
      legal = record {
        start = record { space = 1; seen = length past.entries; acknowledged = 0; tickets = []; places = [] };
        new =
            record {
              space = refl;
              within = omega (arith, length-map past.entries (λ (e : Entry). e.«record»));
              acknowledged = refl;
              tickets = refl;
              places = refl;
            };
        after = refl;
      };
      seen = refl;
      own = λ i place at. absurd (cc at);
      counted = nothing;
    })

-- What a session has seen is a history, whether or not it learned all of it.
pub learned_history : (base : State) {X E : Type 0} (r : Result X E) (seen kept new : List Entry) → IsHistory base seen
    → IsHistory base kept → OnOk r (new ≡ kept) → OnErr r ((new ≡ seen) ⊎ (new ≡ kept)) → IsHistory base new
learned_history base (Ok done) seen kept new history whole ok err = subst (IsHistory base) (sym ok) whole
learned_history base (Err fault) seen kept new history whole ok (inl same) = subst (IsHistory base) (sym same) history
learned_history base (Err fault) seen kept new history whole ok (inr same) = subst (IsHistory base) (sym same) whole

-- The two that learned of a call's record, where it has one.
module _ (old new : BothPastsValue) (space : ℕ) (c : Call) where
  learned_or_not : (answer : Reply) (b : Bool) → has_record c answer ≡ b
      → (has_record c answer ≡ true → new ≡ both_learned old space c answer) → (has_record c answer ≡ false → new ≡ old)
      → (new ≡ both_learned old space c answer) ⊎ (new ≡ old)
  learned_or_not answer true is learned unlearned = inl (learned is)
  learned_or_not answer false is learned unlearned = inr (unlearned is)

  pub both_seen : {E : Type 0} (r : Result TicketValue E) → old.mine.entries ≡ old.kept.entries
      → IfOk r (λ ticket. has_record c ticket.answer ≡ true → new ≡ both_learned old space c ticket.answer)
      → IfOk r (λ ticket. has_record c ticket.answer ≡ false → new ≡ old) → OnOk r (new.mine.entries ≡ new.kept.entries)
  both_seen (Ok ticket) same learned unlearned =
      elim (learned_or_not ticket.answer (has_record c ticket.answer) refl learned unlearned) [
        | inl is ↦ subst (λ (v : BothPastsValue). v.mine.entries ≡ v.kept.entries) (sym is)
            (ap (λ (l : List Entry). l ++ entry_by old.number space c ticket.answer ∷ []) same)
        | inr is ↦ subst (λ (v : BothPastsValue). v.mine.entries ≡ v.kept.entries) (sym is) same
      ]
  both_seen (Err fault) same learned unlearned = tt

  pub both_begin : {E : Type 0} (P : Type 0) (r : Result TicketValue E) (seen : List Entry)
      → Begins seen old.mine.entries
      → IfOk r (λ ticket. has_record c ticket.answer ≡ true → new ≡ both_learned old space c ticket.answer)
      → IfOk r (λ ticket. has_record c ticket.answer ≡ false → new ≡ old) → OnErr r (P × (new ≡ old))
      → Begins seen new.mine.entries
  both_begin P (Ok ticket) seen begins learned unlearned err =
      elim (learned_or_not ticket.answer (has_record c ticket.answer) refl learned unlearned) [
        | inl is ↦ subst (λ (v : BothPastsValue). Begins seen v.mine.entries) (sym is)
            (begins_trans seen old.mine.entries (old.mine.entries ++ entry_by old.number space c ticket.answer ∷ [])
            begins
            (begins_more old.mine.entries (entry_by old.number space c ticket.answer ∷ [])))
        | inr is ↦ subst (λ (v : BothPastsValue). Begins seen v.mine.entries) (sym is) begins
      ]
  both_begin P (Err fault) seen begins learned unlearned err =
      subst (λ (v : BothPastsValue). Begins seen v.mine.entries) (sym err.1) begins

  kept_by : (answer : Reply) (kept : PastValue) (b : Bool) → has_record c answer ≡ b → old.kept ≡ kept
      → (has_record c answer ≡ true → new ≡ both_learned old space c answer) → (has_record c answer ≡ false → new ≡ old)
      → new.kept.entries ≡ kept.entries ++ (if b then entry_by old.number space c answer ∷ [] else [])
  kept_by answer kept true is same learned unlearned =
      ap (λ (v : BothPastsValue). v.kept.entries) (learned is) ∙ ap
      (λ (p : PastValue). p.entries ++ entry_by old.number space c answer ∷ []) same
  kept_by answer kept false is same learned unlearned =
      ap (λ (v : BothPastsValue). v.kept.entries) (unlearned is) ∙ ap (λ (p : PastValue). p.entries) same
      ∙ sym (append-nil kept.entries)

  pub both_kept : {E : Type 0} (r : Result TicketValue E) (kept : PastValue) → old.kept ≡ kept
      → IfOk r (λ ticket. has_record c ticket.answer ≡ true → new ≡ both_learned old space c ticket.answer)
      → IfOk r (λ ticket. has_record c ticket.answer ≡ false → new ≡ old)
      → IfOk r (λ ticket. new.kept.entries ≡ kept.entries ++ entries_of_call old.number space c ticket)
  both_kept (Ok ticket) kept same learned unlearned =
      kept_by ticket.answer kept (has_record c ticket.answer) refl same learned unlearned
  both_kept (Err fault) kept same learned unlearned = tt

  pub both_back : {E : Type 0} (P : Type 0) (r : Result TicketValue E) (kept : PastValue) (seen : List Entry)
      → old.kept ≡ kept → old.mine.entries ≡ kept.entries → OnErr r (P × (new ≡ old))
      → OnErr r (P × (new.kept ≡ kept) × ((new.mine.entries ≡ seen) ⊎ (new.mine.entries ≡ kept.entries)))
  both_back P (Ok ticket) kept seen same level err = tt
  both_back P (Err fault) kept seen same level err = (
    err.0,
    ap (λ (v : BothPastsValue). v.kept) err.1 ∙ same,
    inr (ap (λ (v : BothPastsValue). v.mine.entries) err.1 ∙ level),
  )

-- A call that was made, or wasn't.
module _ {E : Type 0} (base : State) (old new : KernelValue) (kept after : PastValue)
    (opened earlier taken older number space : ℕ) (c : Call)
    (core : IsKernelCore base old kept.entries opened earlier taken older) (P : Type 0) (r : Result TicketValue E)
    (gives : IfOk r (λ ticket. Gives old space c ticket new))
    (is : IfOk r (λ ticket. after.entries ≡ kept.entries ++ entries_of_call number space c ticket))
    (err : OnErr r ((new ≡ old) × (after ≡ kept) × P)) where
  after_by : (r : Result TicketValue E) → IfOk r (λ ticket. Gives old space c ticket new)
      → IfOk r (λ ticket. after.entries ≡ kept.entries ++ entries_of_call number space c ticket)
      → OnErr r ((new ≡ old) × (after ≡ kept) × P) → IsKernelCore base new after.entries opened earlier taken older
  after_by (Ok ticket) gives is err =
      subst (λ (l : List Entry). IsKernelCore base new l opened earlier taken older) (sym is)
      (core_after base old new kept.entries opened earlier taken older number space c ticket core gives)
  after_by (Err fault) gives is err =
      subst (λ (p : PastValue). IsKernelCore base new p.entries opened earlier taken older) (sym err.1)
      (subst (λ (k : KernelValue). IsKernelCore base k kept.entries opened earlier taken older) (sym err.0) core)

  handed_by : (r : Result TicketValue E) → IfOk r (λ ticket. Gives old space c ticket new)
      → OnErr r ((new ≡ old) × (after ≡ kept) × P) → new.handed ≡ old.handed
  handed_by (Ok ticket) gives err = ap (λ (k : KernelValue). k.handed) gives.rest
  handed_by (Err fault) gives err = ap (λ (k : KernelValue). k.handed) err.0

  pub after_call : IsKernelCore base new after.entries opened earlier taken older
  after_call = after_by r gives is err

  pub handed_after : new.handed ≡ old.handed
  handed_after = handed_by r gives err

pub applied_call : {E : Type 0} (base : State) (old new : KernelValue) (kept : List Entry)
    (opened earlier taken older number space : ℕ) (c : Call) → IsKernelCore base old kept opened earlier taken older
    → (r : Result TicketValue E) (seen after mine : List Entry) (made : ℕ) → old.log.made ≡ made
    → IfOk r (λ ticket. Gives old space c ticket new)
    → IfOk r (λ ticket. after ≡ kept ++ entries_of_call number space c ticket) → OnOk r (mine ≡ after)
    → OnOk r (Begins seen kept) → IfOk r (λ ticket. Applies base number space seen c ticket mine made new.log.made)
applied_call base old new kept opened earlier taken older number space c core
    (Ok ticket) seen after mine made counted gives is same begins =
    subst (λ (n : ℕ). Applies base number space seen c ticket mine n new.log.made) counted
    (applies base old new kept opened earlier taken older number space c ticket core gives seen mine begins
    (same ∙ is))
applied_call base old new kept opened earlier taken older number space c core
    (Err fault) seen after mine made counted gives is same begins = tt

-- A call that wasn't made changes nothing except what its session has seen.
pub unapplied_call : {E : Type 0} (base : State) (old new : KernelValue) (past : Option PastValue)
    (kept after : PastValue) (opened earlier taken older : ℕ) (now : KernelCoreValue)
    → IsKernelCore base old kept.entries opened earlier taken older → past ≡ Some kept
    → record { half = old; past = past; opened = opened; earlier = earlier; taken = taken; older = older } ≡ now
    → (r : Result TicketValue E) (seen mine : List Entry) → IsHistory base seen → Begins seen mine
    → OnErr r ((new ≡ old) × (after ≡ kept) × ((mine ≡ seen) ⊎ (mine ≡ kept.entries)))
    → OnErr r (Learns base seen mine
    × (record { half = new; past = Some after; opened = opened; earlier = earlier; taken = taken; older = older }
    ≡ now))
unapplied_call base old new past kept after opened earlier taken older now core there view
    (Ok ticket) seen mine history begins err = tt
unapplied_call base old new past kept after opened earlier taken older now core there view
    (Err fault) seen mine history begins err = (
      record {
        begins = begins;
        history = elim err.2 [
          | inl same ↦ subst (IsHistory base) (sym same) history
          | inr all ↦ subst (IsHistory base) (sym all) (core_history base old kept.entries opened earlier taken older
              core)
        ];
      },
      (λ i. record {
        half = err.0 i;
        past = (ap Some err.1 ∙ sym there) i;
        opened = opened;
        earlier = earlier;
        taken = taken;
        older = older;
      }) ∙ view,
    )

-- The operation of redeeming a ticket whose reply saw no more than the session has seen.
redeems : (base : State) (history : List Record) (old new : Session) (seen : ℕ) (own : Bool) → has_ticket old seen ≡ own
    → IsAcknowledgedUpTo old seen new → Leads base history old
    (if own then redeemed seen else redeemed_for_another seen) new
redeems base history old new seen true is acknowledged = (is, acknowledged)
redeems base history old new seen false is acknowledged = acknowledged

-- A session to which this many records were acknowledged, which it has seen.
pub acknowledged_session : (base : State) (old : SessionValue) (seen amount : ℕ) → seen ≤ length old.past.entries
    → IsSession base old amount → IsSession base
    (record old { task = record old.task { acknowledged = max old.task.acknowledged seen } }) amount
acknowledged_session base old seen amount within is =
    did_session base old (redemption old.task seen)
    (record old { task = record old.task { acknowledged = max old.task.acknowledged seen } }) amount amount
    is.history is (record {
      after =
          record {
            leads = redeems base (records_of old.past.entries) old.task
                (record old.task { acknowledged = max old.task.acknowledged seen }) seen (has_ticket old.task seen) refl
                (omega (arith, within, is.seen), refl);
            more = omega arith;
            within = omega (arith, is.seen, length-map old.past.entries (λ (e : Entry). e.«record»));
          };
      begins = begins_itself old.past.entries;
      same = refl;
    }) is.seen is.own is.counted
