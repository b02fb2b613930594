-- The table of destructions, as the history grows.
use Rattle.std.proofs.Common.{◌≡◌, ◌⊎◌, inl, inr, ℕ, zero, suc, ◌+◌, ◌-◌, ◌<◌, ◌≤◌, ◌==◌, nat_lt, Bool, true, false, ◌&&◌, List, [], ◌∷◌, ◌++◌, length, Option, None, Some, refl, sym, ap, subst, ◌∙◌, arith, length-append}
use Rattle.std.specs.Prelude.{Result, Ok, Err, IfOk, OnOk, IfSome, MatchOption, option_map, replicate, slice_get, if◌then◌else◌}
use Rattle.std.proofs.lemmas.Bool.{cases_lt, eq-eqb, eqb-true, lt-ltb, ltb-false, ltb-true}
use Rattle.std.proofs.lemmas.List.{append-nil, get_or-replicate, get_or_past, length-replicate}
use Rattle.codes.specs.declared.kern_return.KernReturn.TheVariants.{InvalidTask}
use Rattle.codes.specs.declared.limits.TheConstants.{MAX_SPACES}
use Rattle.history.specs.Entries.{records_of}
use Rattle.history.specs.Pasts.{PastValue}
use Rattle.history.specs.declared.entry.Entry.{Entry}
use Rattle.ipc_laws.specs.DetachedLaws.{gone_is_refused}
use Rattle.ipc_laws.specs.RunLaws.{steps_run}
use Rattle.ipc_laws.specs.RunsKeep.{runs_keep_lawful}
use Rattle.ipc_model.specs.calls.Step.{has_record, is_gone, refused}
use Rattle.ipc_model.specs.declared.call.Call.{Call}
use Rattle.ipc_model.specs.declared.call.Call.TheVariants.{Plain, Numbered, Unnumberable}
use Rattle.ipc_model.specs.history.History.{is_destruction}
use Rattle.ipc_model.specs.declared.plain_call.PlainCall.TheVariants as call
use Rattle.ipc_model.specs.declared.reply.Reply.{Reply}
use Rattle.ipc_model.specs.state.Ipc.{Names}
use Rattle.ipc_model.specs.state.LawfulState.{LawfulState}
use Rattle.ipc_model.specs.state.State.{State}
use Rattle.keepers.specs.Destroying.{Destroys, DestroysKnown, IsGoneSince, IsNoted, StaysSince, Tells, TellsOf, count_at, is_noted}
use Rattle.keepers.specs.Keeping.{Applies, IsKernelCore, entries_of_call}
use Rattle.keepers.specs.Tokens.{entry_by}
use Rattle.keepers.proofs.Histories.{got_pushed}
use Rattle.std.specs.FinMap as finmap
use Rattle.system.specs.Halves.{Gives, KernelValue, TicketValue}

-- a table of zeros tells of no record
pub tells_none : (counts : List ℕ) → ((space : ℕ) → count_at counts space ≡ 0) → Tells counts []
tells_none counts zeros = record {
  before = λ space place e at destroys. absurd (cc at);
  last = λ space some. absurd (omega (arith, some, zeros space));
}

-- what stands in a list with one more
got_either : (entries : List Entry) (more e : Entry) (place : ℕ) → slice_get (entries ++ more ∷ []) place ≡ Some e
    → ((slice_get entries place ≡ Some e) × (place < length entries)) ⊎ ((place ≡ length entries) × (more ≡ e))
got_either [] more e zero at = inr (refl, cc at)
got_either [] more e (suc place) at = absurd (cc at)
got_either (first ∷ entries) more e zero at = inl (at, omega arith)
got_either (first ∷ entries) more e (suc place) at =
    elim (got_either entries more e place at) as (λ _. ((slice_get (first ∷ entries) (suc place) ≡ Some e)
    × (suc place < length (first ∷ entries))) ⊎ ((suc place ≡ length (first ∷ entries)) × (more ≡ e))) [
      | inl before ↦ inl (before.0, omega (arith, before.1))
      | inr here ↦ inr (ap suc here.0, here.1)
    ]

still_got : (entries : List Entry) (more e : Entry) (place : ℕ) → slice_get entries place ≡ Some e
    → slice_get (entries ++ more ∷ []) place ≡ Some e
still_got [] more e place at = absurd (cc at)
still_got (first ∷ entries) more e zero at = at
still_got (first ∷ entries) more e (suc place) at = still_got entries more e place at

module _ (counts new : List ℕ) (entries : List Entry) (number space : ℕ) (c : Call) (answer : Reply) where
  abbrev added : Entry
  added = entry_by number space c answer

  -- nothing is noted
  pub tells_same : ((q : ℕ) → count_at new q ≡ count_at counts q) → Tells counts entries → Tells new entries
  tells_same same tells = record {
    before = λ q place e at destroys. omega (arith, tells.before q place e at destroys, same q);
    last = λ q some.
        let one = tells.last q (omega (arith, some, same q)) in (
          one.0,
          subst (λ (n : ℕ). slice_get entries (n - 1) ≡ Some one.0) (sym (same q)) one.1,
          one.2,
        );
  }

  -- one more entry, which destroys nothing
  pub tells_other : is_destruction c ≡ false → ((q : ℕ) → count_at new q ≡ count_at counts q) → Tells counts entries
      → Tells new (entries ++ added ∷ [])
  tells_other other same tells = record {
    before = λ q place e at destroys.
        elim (got_either entries added e place at) as (λ _. place < count_at new q) [
          | inl was ↦ omega (arith, tells.before q place e was.0 destroys, same q)
          | inr here ↦ absurd (cc (other, ap (λ (x : Entry). is_destruction x.«record».call) here.1, destroys.0))
        ];
    last = λ q some.
        let one = tells.last q (omega (arith, some, same q)) in (
          one.0,
          subst (λ (n : ℕ). slice_get (entries ++ added ∷ []) (n - 1) ≡ Some one.0) (sym (same q))
              (still_got entries added one.0 (count_at counts q - 1) one.1),
          one.2,
        );
  }

  -- one that destroys its space
  pub tells_destroyed : is_destruction c ≡ true
      → ((q : ℕ) → count_at new q ≡ (if q == space then length entries + 1 else count_at counts q))
      → Tells counts entries → Tells new (entries ++ added ∷ [])
  tells_destroyed is noted tells = record {
    before = λ q place e at destroys.
        elim (got_either entries added e place at) as (λ _. place < count_at new q) [
          | inl was ↦ by_old q place (q == space) (noted q) was.1 (tells.before q place e was.0 destroys)
          | inr here ↦ by_new q place here.0
              (sym (ap (λ (x : Entry). x.«record».space) here.1 ∙ destroys.1))
        ];
    last = λ q some. last_of q (q == space) refl some;
  }
    where
      by_old : (q place : ℕ) (b : Bool) → count_at new q ≡ (if b then length entries + 1 else count_at counts q)
          → place < length entries → place < count_at counts q → place < count_at new q
      by_old q place true at low below = omega (arith, at, low)
      by_old q place false at low below = omega (arith, at, below)

      by_new : (q place : ℕ) → place ≡ length entries → q ≡ space → place < count_at new q
      by_new q place here same =
          let at = noted q ∙ ap (λ (b : Bool). if b then length entries + 1 else count_at counts q)
          (ap (λ (n : ℕ). n == space) same ∙ eq-eqb space space refl) in
          omega (arith, here, at)

      last_of : (q : ℕ) (b : Bool) → (q == space) ≡ b → 0 < count_at new q
          → (e : Entry) × (slice_get (entries ++ added ∷ []) (count_at new q - 1) ≡ Some e) × Destroys q e
      last_of q true same some =
          let at = noted q ∙ ap (λ (b : Bool). if b then length entries + 1 else count_at counts q) same in
          let place : count_at new q - 1 ≡ length entries = omega (arith, at) in (
            added,
            subst (λ (n : ℕ). slice_get (entries ++ added ∷ []) n ≡ Some added) (sym place)
                (got_pushed entries added),
            (is, sym (eqb-true q space same)),
          )
      last_of q false other some =
          let at = noted q ∙ ap (λ (b : Bool). if b then length entries + 1 else count_at counts q) other in
          let one = tells.last q (omega (arith, some, at)) in (
            one.0,
            subst (λ (n : ℕ). slice_get (entries ++ added ∷ []) (n - 1) ≡ Some one.0) (sym at)
                (still_got entries added one.0 (count_at counts q - 1) one.1),
            one.2,
          )

lt_same : (n : ℕ) → nat_lt n n ≡ false
lt_same n =
    elim (nat_lt n n) as (λ (b : Bool). nat_lt n n ≡ b → b ≡ false) [
      | true ↦ λ (less : _). absurd (omega (arith, ltb-true n n less))
      | false ↦ λ (_ : _). refl
    ] refl

-- a call that was made, as it is noted
pub tells_more : (counts new : List ℕ) (entries after : List Entry) (number space before made : ℕ) (c : Call)
    (ticket : TicketValue) → before ≡ length entries → made ≡ length after
    → after ≡ entries ++ entries_of_call number space c ticket → IsNoted counts space c before made new
    → Tells counts entries → Tells new after
tells_more counts new entries after number space before made c ticket counted long is noted tells =
    by (has_record c ticket.answer) refl
  where
    as_added : (b : Bool) → has_record c ticket.answer ≡ b
        → after ≡ entries ++ (if b then entry_by number space c ticket.answer ∷ [] else [])
    as_added b recorded =
        is ∙ ap (λ (b : Bool). entries ++ (if b then entry_by number space c ticket.answer ∷ [] else [])) recorded

    noted_by : (q : ℕ) (less kind : Bool) → nat_lt before made ≡ less → is_destruction c ≡ kind
        → count_at new q ≡ (if less && kind && (q == space) then made else count_at counts q)
    noted_by q less kind one two =
        noted q ∙ ap (λ (b : Bool). if b && (q == space) then made else count_at counts q)
        (λ i. one i && two i)

    kinds : (kind : Bool) → is_destruction c ≡ kind → has_record c ticket.answer ≡ true → Tells new after
    kinds kind kind_is recorded =
        let grown = as_added true recorded in
        let more : made ≡ length entries + 1 = long ∙ ap length grown ∙ length-append entries (entry_by number space c ticket.answer ∷ []) in
        let less : nat_lt before made ≡ true =
        (λ i. nat_lt (counted i) (more i)) ∙ lt-ltb (length entries) (length entries + 1) (omega arith) in
        subst (Tells new) (sym grown) (of kind kind_is more less)
      where
        of : (kind : Bool) → is_destruction c ≡ kind → made ≡ length entries + 1 → nat_lt before made ≡ true
            → Tells new (entries ++ entry_by number space c ticket.answer ∷ [])
        of true destroys more less =
            tells_destroyed counts new entries number space c ticket.answer destroys
            (λ q. noted_by q true true less destroys ∙ ap
            (λ (n : ℕ). if q == space then n else count_at counts q) more) tells
        of false other more less =
            tells_other counts new entries number space c ticket.answer other
            (λ q. noted_by q true false less other) tells

    by : (b : Bool) → has_record c ticket.answer ≡ b → Tells new after
    by true recorded = kinds (is_destruction c) refl recorded
    by false none =
        let still : after ≡ entries = as_added false none ∙ append-nil entries in
        let less : nat_lt before made ≡ false =
        (λ i. nat_lt (counted i) ((long ∙ ap length still) i)) ∙ lt_same (length entries) in
        subst (Tells new) (sym still) (tells_same counts new entries number space c ticket.answer
        (λ q. noted q ∙ ap (λ (b : Bool). if b && is_destruction c && (q == space) then made else count_at counts q)
        less) tells)

-- A session that is settled by the table.
pub stays_since : (counts : List ℕ) (since space : ℕ) (entries : Option (List Entry)) → TellsOf counts entries
    → nat_lt since (count_at counts space) ≡ false → StaysSince since space entries
stays_since counts since space None tells not_later = absurd tells
stays_since counts since space (Some entries) tells not_later =
    λ place e later at destroys. absurd (omega (
      arith,
      later,
      tells.before space place e at destroys,
      ltb-false since (count_at counts space) not_later,
    ))

pub gone_since : (counts : List ℕ) (since space : ℕ) (entries : Option (List Entry)) → TellsOf counts entries
    → nat_lt since (count_at counts space) ≡ true → IsGoneSince since space entries
gone_since counts since space None tells later = absurd tells
gone_since counts since space (Some entries) tells later =
    let less = ltb-true since (count_at counts space) later in
    let one = tells.last space (omega (arith, less)) in
    (count_at counts space - 1, one.0, omega (arith, less), one.1, one.2)

-- The space of a call that destroys it is one that was there, so its number is known.
is_the_destruction : (c : Call) → is_destruction c ≡ true → c ≡ Plain call.SpaceDestroy
is_the_destruction (Plain call.SpaceDestroy) is = refl
is_the_destruction (Plain c) is = absurd (cc is)
is_the_destruction (Numbered numbered) is = absurd (cc is)
is_the_destruction Unnumberable is = absurd (cc is)

there_known : (state : State) (space : ℕ) → LawfulState state → is_gone state space ≡ false → space ≤ MAX_SPACES
there_known state space lawful there =
    of (finmap.get state.ipc.spaces space) refl there
  where
    of : (names : Option Names) → finmap.get state.ipc.spaces space ≡ names → is_gone state space ≡ false
        → space ≤ MAX_SPACES
    of None at there = absurd (cc (at, there))
    of (Some names) at there = (lawful.ipc.spaces space names at).1

pub destroys_known : {E : Type 0} (base : State) (old new : KernelValue) (kept : List Entry)
    (opened earlier taken older space : ℕ) (c : Call) → IsKernelCore base old kept opened earlier taken older
    → (r : Result TicketValue E) → IfOk r (λ ticket. Gives old space c ticket new)
    → IfOk r (λ ticket. DestroysKnown space c ticket)
destroys_known base old new kept opened earlier taken older space c core (Ok ticket) gives =
    λ recorded destroys. by (is_gone old.kernel space) refl recorded destroys
  where
    lawful : LawfulState old.kernel
    lawful =
        (runs_keep_lawful base (records_of kept) old.kernel core.applied.fit core.applied.lawful core.applied.acyclic
        (steps_run base old.kernel (records_of kept) core.applied.run)).0

    by : (gone : Bool) → is_gone old.kernel space ≡ gone → has_record c ticket.answer ≡ true
        → is_destruction c ≡ true → space ≤ MAX_SPACES
    by false there recorded destroys = there_known old.kernel space lawful there
    by true gone recorded destroys =
        let same = is_the_destruction c destroys in
        let refused_is = (gone_is_refused old.kernel space c ticket.answer new.kernel gone gives.step).0 in
        absurd (cc (
          recorded,
          (λ i. has_record (same i) (refused_is i)) ∙ ap (λ (k : Call). has_record (Plain call.SpaceDestroy)
              (refused k InvalidTask)) same,
        ))
destroys_known base old new kept opened earlier taken older space c core (Err fault) gives = tt

-- The history that is kept, as long as its records.
pub counted_all : (base : State) (half : KernelValue) (past : Option PastValue) (opened earlier taken older : ℕ)
    → MatchOption past ⊥ (λ p. IsKernelCore base half p.entries opened earlier taken older)
    → IfSome (option_map (λ (p : PastValue). p.entries) past) (λ entries. half.log.made ≡ length entries)
counted_all base half None opened earlier taken older core = absurd core
counted_all base half (Some past) opened earlier taken older core =
    core.applied.made_is ∙ length-records past.entries
  where
    length-records : (entries : List Entry) → length (records_of entries) ≡ length entries
    length-records [] = refl
    length-records (first ∷ entries) = ap suc (length-records entries)

pub counted_as : (made result : ℕ) (entries : Option (List Entry)) → result ≡ made
    → IfSome entries (λ l. made ≡ length l) → IfSome entries (λ l. result ≡ length l)
counted_as made result None same counted = tt
counted_as made result (Some l) same counted = same ∙ counted

pub zero_at : (count space : ℕ) → count_at (replicate count 0) space ≡ 0
zero_at count space = elim (cases_lt space count) [
  | inl low ↦ get_or-replicate {A = ℕ} count space 0 0 low
  | inr past ↦ get_or_past (replicate count 0) space 0 (omega (arith, past, length-replicate {A = ℕ} count 0))
]

pub level_ok : {X E : Type 0} (r : Result X E) (kept mine : List Entry) → OnOk r (mine ≡ kept)
    → OnOk r (Some kept ≡ Some mine)
level_ok (Ok x) kept mine same = ap (λ (l : List Entry). Some l) (sym same)
level_ok (Err e) kept mine same = tt

both_true : (a b : Bool) → (a && b) ≡ true → (a ≡ true) × (b ≡ true)
both_true true b is = (refl, is)
both_true false b is = absurd (cc is)

-- what is noted is of a space whose number is known
pub known_noted : (base : State) (number space : ℕ) (seen : List Entry) (c : Call) (ticket : TicketValue)
    (after : List Entry) (old_made new_made before made : ℕ)
    → Applies base number space seen c ticket after old_made new_made → before ≡ old_made → made ≡ length after
    → DestroysKnown space c ticket → is_noted c before made ≡ true → space ≤ MAX_SPACES
known_noted base number space seen c ticket after old_made new_made before made did counted long known noted =
    by (has_record c ticket.answer) refl
  where
    parts : (nat_lt before made ≡ true) × (is_destruction c ≡ true)
    parts = both_true (nat_lt before made) (is_destruction c) noted

    by : (b : Bool) → has_record c ticket.answer ≡ b → space ≤ MAX_SPACES
    by true recorded = known recorded parts.1
    by false none =
        let still : after ≡ did.before =
        did.after_is ∙ ap (λ (b : Bool). did.before ++ (if b then entry_by number space c ticket.answer ∷ [] else []))
        none ∙ append-nil did.before in
        let same : nat_lt before made ≡ nat_lt (length did.before) (length did.before) =
        λ i. nat_lt ((counted ∙ did.old_counted) i) ((long ∙ ap length still) i) in
        absurd (cc (parts.0, same, lt_same (length did.before)))

some_entries : (one other : List Entry) → Some one ≡ Some other → one ≡ other
some_entries one other is = cc is

-- the table, after a call that was made
pub tells_called : (counts new : List ℕ) (old now : Option (List Entry)) (after : List Entry)
    (number space before made : ℕ) (c : Call) (ticket : TicketValue) → TellsOf counts old
    → IfSome old (λ l. before ≡ length l) → now ≡ option_map (λ l. l ++ entries_of_call number space c ticket) old
    → now ≡ Some after → made ≡ length after → IsNoted counts space c before made new → TellsOf new now
tells_called counts new None now after number space before made c ticket tells counted grown level long noted =
    absurd tells
tells_called counts new (Some entries) now after number space before made c ticket tells counted grown level long
    noted = subst (TellsOf new) (sym level)
    (tells_more counts new entries after number space before made c ticket counted long
    (some_entries after (entries ++ entries_of_call number space c ticket) (sym level ∙ grown)) noted tells)
