-- Calls of sessions that may be confined.
use Rattle.std.proofs.Common.{◌≡◌, ◌≤◌, inl, inr, ℕ, Bool, false, List, ◌++◌, length, Option, None, Some, refl, sym, ap, subst, ◌∙◌, arith}
use Rattle.std.specs.Prelude.{Result, Ok, Err, IfOk, MatchOption, option_map, if◌then◌else◌}
use Rattle.std.proofs.lemmas.List.{append_cancel_right}
use Rattle.codes.specs.declared.kern_return.KernReturn.TheVariants.{InvalidTask}
use Rattle.codes.specs.declared.name.TheConstants.{NO_SPACE}
use Rattle.history.proofs.Beginnings.{begins_itself, begins_trans}
use Rattle.history.specs.Entries.{Begins, records_of}
use Rattle.history.specs.declared.entry.Entry.{Entry}
use Rattle.ipc_laws.specs.DetachedLaws.{detached_is_refused}
use Rattle.ipc_model.specs.calls.Step.{Step, Steps, refused, succeeded}
use Rattle.ipc_model.specs.declared.call.Call.{Call}
use Rattle.ipc_model.specs.declared.call.Call.TheVariants.{Plain, Numbered, Unnumberable}
use Rattle.ipc_model.specs.declared.plain_call.PlainCall.TheVariants as call
use Rattle.ipc_model.specs.history.History.{Session, attached_by, called, looked}
use Rattle.ipc_model.specs.state.State.{State}
use Rattle.keepers.specs.Destroying.{MadeSince, NoSpaceIsRefused, SettlesBy, WasIn}
use Rattle.keepers.specs.Keeping.{Applies, MadeAfter, entries_of_call}
use Rattle.keepers.proofs.Histories.{looking, looks}
use Rattle.keepers.specs.Tokens.{SessionValue, Did, IsSession, attached_to}
use Rattle.system.specs.Halves.{TicketValue}

some_is : (one other : List Entry) → Some one ≡ Some other → one ≡ other
some_is one other is = cc is

-- A call that was applied was made right after all that was kept.
pub made_after : (base : State) (kept now : Option (List Entry)) (old new : SessionValue) (c : Call)
    (ticket : TicketValue) (old_made new_made : ℕ)
    → Applies base old.number old.task.space old.past.entries c ticket new.past.entries old_made new_made
    → Did base old (called c ticket.answer) new → new.task.seen ≡ length new.past.entries
    → now ≡ option_map (λ l. l ++ entries_of_call old.number old.task.space c ticket) kept
    → now ≡ Some new.past.entries → MatchOption kept ⊥ (λ before. MadeAfter base before old c ticket new)
made_after base None now old new c ticket old_made new_made applies did seen grown level = absurd (cc (grown, level))
made_after base (Some before) now old new c ticket old_made new_made applies did seen grown level =
    let added = entries_of_call old.number old.task.space c ticket in
    let all : new.past.entries ≡ before ++ added =
    some_is new.past.entries (before ++ added) (sym level ∙ grown) in
    let same : applies.before ≡ before =
    append_cancel_right applies.before before added (sym applies.after_is ∙ all) in
    record {
      did = did;
      all = all;
      kernel = applies.kernel;
      run = subst (λ (l : List Entry). Steps base (records_of l) applies.kernel) same applies.run;
      lawful = applies.lawful;
      next = applies.next;
      step = applies.step;
      seen = seen;
      ticket_seen = applies.seen_is ∙ sym seen;
    }

pub made_since : {E : Type 0} (base : State) (since : Option ℕ) (kept : Option (List Entry))
    (old settled new : SessionValue) (c : Call) (r : Result TicketValue E) → SettlesBy base since kept old settled
    → IfOk r (λ ticket. MatchOption kept ⊥ (λ before. MadeAfter base before settled c ticket new))
    → IfOk r (λ ticket. MadeSince base since old c ticket new)
made_since base since kept old settled new c (Err fault) settles made = tt
made_since base since None old settled new c (Ok ticket) settles made = absurd made
made_since base since (Some before) old settled new c (Ok ticket) settles made =
    record { before = before; settled = settled; settles = settles; made = made }

-- A session that was settled and then looked: it is as it was, but for its space and what it has seen.
abbrev pub Strays : State → SessionValue → SessionValue → Type 0
Strays base old mid =
    (mid.number ≡ old.number) × (record mid.task { space = old.task.space; seen = old.task.seen } ≡ old.task)
    × (old.task.seen ≤ mid.task.seen) × (mid.task.seen ≤ length (records_of mid.past.entries))
    × Begins old.past.entries mid.past.entries

strayed : (base : State) (old settled mid : SessionValue)
    → record settled.task { space = old.task.space; seen = old.task.seen } ≡ old.task
    → settled.number ≡ old.number → old.task.seen ≤ settled.task.seen → Begins old.past.entries settled.past.entries
    → Did base settled looked mid → Strays base old mid
strayed base old settled mid task number seen begins did = (
  did.same ∙ number,
  ap (λ (s : Session). record s { space = old.task.space; seen = old.task.seen }) did.after.leads ∙ task,
  omega (arith, seen, did.after.more),
  did.after.within,
  begins_trans old.past.entries settled.past.entries mid.past.entries begins did.begins,
)

same_strays : (base : State) (old settled mid : SessionValue) → settled ≡ old → Did base settled looked mid
    → Strays base old mid
same_strays base old settled mid same did =
    strayed base old settled mid
    (ap (λ (s : SessionValue). record s.task { space = old.task.space; seen = old.task.seen }) same)
    (ap (λ (s : SessionValue). s.number) same)
    (seen_same old settled (ap (λ (s : SessionValue). s.task.seen) same))
    (subst (λ (s : SessionValue). Begins old.past.entries s.past.entries) (sym same)
    (begins_itself old.past.entries)) did
  where
    seen_same : (old settled : SessionValue) → settled.task.seen ≡ old.task.seen → old.task.seen ≤ settled.task.seen
    seen_same old settled is = omega (arith, is)

pub strays : (base : State) (since : Option ℕ) (kept : Option (List Entry)) (old settled mid : SessionValue)
    → SettlesBy base since kept old settled → Did base settled looked mid → Strays base old mid
strays base None kept old settled mid same did = same_strays base old settled mid same did
strays base (Some since) kept old settled mid (inl same) did = same_strays base old settled mid same.0 did
strays base (Some since) kept old settled mid (inr gone) did =
    strayed base old settled mid
    (ap (λ (s : Session). record s { space = old.task.space; seen = old.task.seen }) gone.0.after.leads.after)
    gone.0.same gone.0.after.more gone.0.begins did

-- A session that is returned to its space is one that looked.
pub attaches : (base : State) (space : ℕ) (now : SessionValue) (amount : ℕ) → IsSession base now amount
    → WasIn base space now → IsSession base (attached_to space now) amount
attaches base space now amount is was =
    let task : record now.task { space = space } ≡ record was.old.task { seen = length now.past.entries } =
    ap (λ (n : ℕ). record now.task { space = space; seen = n }) is.seen
    ∙ ap (λ (s : Session). record s { seen = length now.past.entries }) was.task in
    let value : attached_to space now ≡ looking was.old now.past =
    ap (λ (t : Session). record { number = now.number; past = now.past; task = t }) task
    ∙ ap (λ (n : ℕ). record {
      number = n;
      past = now.past;
      task = record was.old.task { seen = length now.past.entries };
    }) was.same in
    let same : was.amount ≡ amount =
    was.session.counted ∙ sym (ap (λ (s : Session). length s.places) was.task) ∙ sym is.counted in
    subst (λ (s : SessionValue). IsSession base s amount) (sym value)
    (looks base was.old now.past amount is.history (subst (IsSession base was.old) same was.session) was.begins)

pub was_in : (base : State) (old mid : SessionValue) (amount : ℕ) → IsSession base old amount → Strays base old mid
    → WasIn base old.task.space mid
was_in base old mid amount session strays =
    record {
      old = old;
      amount = amount;
      session = session;
      begins = strays.4;
      same = strays.0;
      task = strays.1;
    }

pub back : (base : State) (old mid : SessionValue) → Strays base old mid
    → Did base old looked (attached_to old.task.space mid)
back base old mid strays =
    record {
      after =
          record {
            leads =
                ap (λ (s : Session). record s { seen = mid.task.seen }) strays.1;
            more = strays.2;
            within = strays.3;
          };
      begins = strays.4;
      same = strays.0;
    }

-- A call that is made in no space is refused.
not_done : (c : Call) → succeeded (refused c InvalidTask) ≡ false
not_done (Plain (call.Send message)) = refl
not_done (Plain (call.Receive limit large name waited)) = refl
not_done (Plain c) = refl
not_done (Numbered numbered) = refl
not_done Unnumberable = refl

pub no_space_refused : NoSpaceIsRefused
no_space_refused base before old c ticket new made nowhere = (
  answer_is,
  elim made.did.after.leads as (λ _. new.task.space ≡ NO_SPACE) [
    | inl at ↦ ap (λ (s : Session). s.space) at.after ∙ nowhere
    | inr is ↦ ap (λ (s : Session). s.space) is.after
        ∙ ap (λ (done : Bool). if done then attached_by old.task.space c else old.task.space)
        (ap succeeded answer_is ∙ not_done c) ∙ nowhere
  ],
)
  where
    answer_is : ticket.answer ≡ refused c InvalidTask
    answer_is =
        (detached_is_refused made.kernel c ticket.answer made.next made.lawful
        (subst (λ (space : ℕ). Step made.kernel space c ticket.answer made.next) nowhere made.step)).0
