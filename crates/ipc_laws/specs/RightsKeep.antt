-- mach_port_insert_right, mach_port_extract_right and the making of a space leave states that are lawful with the
-- effects.
use Rattle.std.specs.Prelude.{◌≡◌, ◌≢◌, ℕ, ◌+◌, ◌^◌, ◌<◌, ◌≤◌, Bool, true, false, cond, not, ◌&&◌, ◌||◌, ◌==◌, nat_le, nat_lt, List, [], ◌∷◌, Option, None, Some, is_some, is_none, option_and_then, if◌then◌else◌, refl}
use Rattle.std.proofs.Common.{sym, ◌∙◌, ap, subst, inl, inr, arith}
use Rattle.std.proofs.lemmas.Bool.{ltb-false, leb-false, eq-eqb}
use Rattle.std.specs.List.{list_any}
use Rattle.std.specs.Ordering.{nat_cmp, eq_by_cmp}
use Rattle.std.specs.FinMap as finmap
use Rattle.std.specs.FinMap.{get-entries, len-empty}
use Rattle.codes.specs.declared.kern_return.KernReturn.{KernReturn}
use Rattle.codes.specs.declared.kern_return.KernReturn.TheVariants.{InvalidName, InvalidRight, InvalidValue, InvalidCapability, NameExists, RightExists, UrefsOverflow, NoSpace, ResourceShortage}
use Rattle.codes.specs.declared.limits.TheConstants.{MAX_NAMES, MAX_SPACES}
use Rattle.ipc_model.specs.declared.plain_call.PlainCall.TheVariants as call
use Rattle.ipc_model.specs.declared.plain_reply.PlainReply.{PlainReply}
use Rattle.ipc_model.specs.declared.entry.Entry.{Entry}
use Rattle.ipc_model.specs.declared.message.CarriedRight.{CarriedRight}
use Rattle.ipc_model.specs.declared.message.PortInMessage.{PortInMessage}
use Rattle.ipc_model.specs.declared.message.PortInMessage.TheVariants as in_message
use Rattle.ipc_model.specs.declared.message.RightKind.{RightKind}
use Rattle.ipc_model.specs.declared.message.RightKind.TheVariants as kind
use Rattle.ipc_model.specs.declared.port.PortState.{PortState}
use Rattle.ipc_model.specs.calls.Actions.{Done, Inserted, Extracted, Created, IsUnusedSpace, taken_by}
use Rattle.ipc_laws.specs.AllocateKeep.{chosen_unused}
use Rattle.ipc_laws.specs.Arrivals.{HasName, with_one, arrived_mid, fresh_arrived, merged_after}
use Rattle.ipc_laws.specs.CallsKeep.{Kept, first_passes}
use Rattle.ipc_model.specs.state.Circular.{Acyclic}
use Rattle.ipc_model.specs.rights.CopyIn.{Taken, copy_in}
use Rattle.ipc_model.specs.rights.CopyOut.{merged_entry, names_after, wants_name, names_needed}
use Rattle.ipc_laws.specs.Dangling.{not_equal}
use Rattle.ipc_model.specs.rights.Dispositions.{Disposition, disposition_of}
use Rattle.ipc_model.specs.effects.Effects.{Effect}
use Rattle.ipc_laws.specs.Hands.{Hand, MidCall, empty_hand, mid_of, kept_of_mid}
use Rattle.ipc_model.specs.state.Lawful.{LawfulNames, IsHeldAlongsideSet}
use Rattle.ipc_laws.specs.LawfulLaws.{LawfulAtRest}
use Rattle.ipc_laws.specs.ListLaws.{some_same}
use Rattle.ipc_laws.specs.MapLaws.{get-here, get-there}
use Rattle.ipc_laws.specs.MapSums.{total-new, insert-insert, key_is}
use Rattle.ipc_laws.specs.NameChanges.{first_there, one_space}
use Rattle.ipc_laws.specs.OpeningLaws.{total-empty, no_names_lawful}
use Rattle.ipc_laws.specs.Others.{number_same}
use Rattle.ipc_model.specs.calls.PortCalls.{tests_of, tests_of_copy_in, tests_of_taken, tests_of_insert, tests_of_extract, names_in, is_no_name, is_in_use, names_are_used_up, stands_elsewhere, is_taken_otherwise, passes_bound, is_send_once_kind}
use Rattle.ipc_model.specs.messages.Sending.{live_port}
use Rattle.ipc_model.specs.state.Ipc.{Ipc, Names, is_null_or_dead, with_names, port_held, is_number}
use Rattle.ipc_laws.specs.Takes.{MidTaken, taken_mid, with_right}
use Rattle.ipc_model.specs.calls.Tests.{Tests, first_failing}
use Rattle.ipc_laws.specs.Weights.{Weight, names_weigh, entry_weigh, state_weigh, receive_of, any_of}

-- what passing the tests of a right that is copied in shows: it was taken, and names a port
pub record CopiedIn (old : Ipc) (space name : ℕ) (disposition : Option Disposition)
    (later : Taken → ℕ → Tests) : Type 0 where
  pub by : Disposition
  pub taken : Taken
  pub serial : ℕ
  pub known : disposition ≡ Some by
  pub is : copy_in old space name by ≡ Some taken
  pub port : taken.right.port ≡ in_message.Live serial
  pub passes : first_failing (later taken serial) ≡ None

live_is : (port : PortInMessage) (serial : ℕ) → live_port port ≡ Some serial → port ≡ in_message.Live serial
live_is in_message.Null serial is = absurd (cc is)
live_is in_message.Dead serial is = absurd (cc is)
live_is (in_message.Live other) serial is = ap (λ k. in_message.Live k) (some_same other serial is)

never_passes : (code : KernReturn) → first_failing ((true, code) ∷ []) ≡ None → ⊥
never_passes code e = cc e

pub copied_in : (old : Ipc) (space name : ℕ) (disposition : Option Disposition) (code : KernReturn)
    (later : Taken → ℕ → Tests) → first_failing (tests_of_copy_in old space name disposition code later) ≡ None
    → CopiedIn old space name disposition later
copied_in old space name None code later passes = absurd (never_passes InvalidValue passes)
copied_in old space name (Some by) code later passes =
    elim (copy_in old space name by)
    as (λ (o : Option Taken). copy_in old space name by ≡ o → first_failing (tests_of_taken code o later) ≡ None
    → CopiedIn old space name (Some by) later) [
      | None ↦ λ (_ : _) (e : _). absurd (never_passes code e)
      | Some taken ↦ λ (is : _) (e : _).
          elim (live_port taken.right.port)
          as (λ (o : Option ℕ). live_port taken.right.port ≡ o
          → first_failing (elim o as (λ _. Tests)
          [ None ↦ (true, code) ∷ [] | Some serial ↦ later taken serial ]) ≡ None
          → CopiedIn old space name (Some by) later) [
            | None ↦ λ (_ : _) (e : _). absurd (never_passes code e)
            | Some serial ↦ λ (live : _) (e : _).
                record {
                  by = by;
                  taken = taken;
                  serial = serial;
                  known = refl;
                  is = is;
                  port = live_is taken.right.port serial live;
                  passes = e;
                }
          ] refl e
    ] refl passes

pub taken_is : (old : Ipc) (space name disposition : ℕ) (by : Disposition) (taken : Taken)
    → disposition_of disposition ≡ Some by → copy_in old space name by ≡ Some taken
    → taken_by old space name disposition ≡ Some taken
taken_is old space name disposition by taken known is = ap (option_and_then (copy_in old space name)) known ∙ is

pub names_are : (state : Ipc) (space : ℕ) (names : Names) → finmap.get state.spaces space ≡ Some names
    → names_in state space ≡ names
names_are state space names there =
    ap (λ (o : Option Names). elim o as (λ _. Names) [ None ↦ finmap.empty | Some n ↦ n ]) there

-- a call that has nothing left in hand, with the notices of its copy in
pub done_with_notices : (state new : Ipc) (notices effects : List Effect) (space : ℕ) (hand : Hand) (taken : Taken)
    → MidTaken space hand taken → MidCall state empty_hand → new ≡ state → effects ≡ taken.notices → Kept new effects
done_with_notices state new notices effects space hand taken mid after same are =
    subst (λ (s : Ipc). Kept s effects) (sym same)
    (subst (λ (l : List Effect). Kept state l) (sym are)
    (kept_of_mid state empty_hand taken.notices after mid.quiet.waits (λ (q : ℕ). mid.quiet.receives q)))

-- mach_port_extract_right

room_for : (names : Names) (right : CarriedRight)
    → nat_lt MAX_NAMES (finmap.len names + names_needed names [] (right ∷ [])) ≡ false
    → wants_name names [] right.kind right.port ≡ true → finmap.len names < MAX_NAMES
room_for names right fits wants =
    let one : (if wants_name names [] right.kind right.port then 1 else 0) ≡ 1 =
    ap {B = ℕ} (λ (b : Bool). if b then 1 else 0) wants in
    omega (arith, one, ltb-false MAX_NAMES (finmap.len names + names_needed names [] (right ∷ [])) fits)

extracted_kept : (old : Ipc) (space : ℕ) (taken : Taken) (answer : PlainReply) (new : Ipc) (effects : List Effect)
    → MidTaken space empty_hand taken
    → nat_lt MAX_NAMES (finmap.len (names_in taken.state space) + names_needed (names_in taken.state space) []
    (taken.right ∷ [])) ≡ false → Extracted (Some taken) space answer new effects → Kept new effects
extracted_kept old space taken answer new effects mid fits (name, _, (may, same, are)) =
    let here : names_in taken.state space ≡ mid.names = names_are taken.state space mid.names mid.there in
    let arrived =
    arrived_mid taken.state space (names_in taken.state space) empty_hand taken.right.kind taken.right.port name
    mid.mid (mid.there ∙ ap (λ n. Some n) (sym here)) may
    (room_for (names_in taken.state space) taken.right fits) in
    done_with_notices (with_names taken.state space
    (names_after (names_in taken.state space) taken.right.kind taken.right.port name)) new taken.notices effects
    space empty_hand taken mid arrived.mid same are

pub extract_kept : (old : Ipc) (space name disposition : ℕ) (names : Names) (answer : PlainReply) (new : Ipc)
    (effects : List Effect) → LawfulAtRest old → Acyclic old → finmap.get old.spaces space ≡ Some names
    → first_failing (tests_of old space names (call.ExtractRight name disposition)) ≡ None
    → Done old space names (call.ExtractRight name disposition) answer new effects → Kept new effects
unfolding Done tests_of
extract_kept old space name disposition names answer new effects lawful acyclic there passes done =
    let last : Tests =
    tests_of_copy_in old space name (disposition_of disposition) InvalidRight (tests_of_extract space) in
    let known =
    (first_passes (is_none (disposition_of disposition), InvalidValue)
    ((is_no_name names name, InvalidName) ∷ last) passes).1 in
    let in_use = (first_passes (is_no_name names name, InvalidName) last known).1 in
    let copied = copied_in old space name (disposition_of disposition) InvalidRight (tests_of_extract space) in_use in
    let mid =
    taken_mid old empty_hand space name names copied.by copied.taken (mid_of old lawful acyclic) there copied.is in
    let room =
    (first_passes (
      nat_lt MAX_NAMES
          (finmap.len (names_in copied.taken.state space) + names_needed (names_in copied.taken.state space) []
          (copied.taken.right ∷ [])),
      NoSpace,
    ) [] copied.passes).0 in
    extracted_kept old space copied.taken answer new effects mid room
    (subst (λ (o : Option Taken). Extracted o space answer new effects)
    (taken_is old space name disposition copied.by copied.taken copied.known copied.is) done)

-- mach_port_insert_right

any_found : (test : ℕ × Entry → Bool) (es : List (ℕ × Entry)) (k : ℕ) (entry : Entry)
    → finmap.find nat_cmp k es ≡ Some entry → ((q : ℕ) → q ≡ k → test (q, entry) ≡ true) → list_any test es ≡ true
any_found test [] k entry there passes = absurd (cc there)
any_found test (e ∷ es) k entry there passes =
    elim (test e) as (λ (b : Bool). test e ≡ b → (b || list_any test es) ≡ true) [
      | true ↦ λ (_ : _). refl
      | false ↦ λ (fails : _). elim (eq_by_cmp nat_cmp k e.0)
          as (λ (b : Bool). eq_by_cmp nat_cmp k e.0 ≡ b → cond b (Some e.1) (finmap.find nat_cmp k es) ≡ Some entry
          → list_any test es ≡ true) [
            | true ↦ λ (tie : _) (same : _). absurd
                (cc (sym (passes e.0 (sym (key_is k e.0 tie))) ∙ ap
                (λ (v : Entry). test (e.0, v)) (sym (some_same e.1 entry same)) ∙ fails))
            | false ↦ λ (_ : _) (later : _). any_found test es k entry later passes
          ] refl there
    ] refl

-- a port that stands under no other name, and not under this one, has no name
no_name_else : (names : Names) (name serial : ℕ) → finmap.get names name ≡ None
    → stands_elsewhere names name serial ≡ false → HasName names serial → ⊥
no_name_else names name serial free nowhere has =
    let apart : has.name ≢ name = λ (same : _). cc (sym free ∙ ap (finmap.get names) (sym same) ∙ has.at) in
    let is_that : is_number (port_held has.entry) serial ≡ true =
    ap (λ (o : Option ℕ). is_number o serial) has.held ∙ eq-eqb serial serial refl in
    cc (sym (any_found (λ (e : ℕ × Entry). is_number (port_held e.1) serial && not (e.0 == name))
    (finmap.entries names) has.name has.entry (sym (get-entries names has.name) ∙ has.at) (λ (q : ℕ) (same : _).
    ap (λ (b : Bool). b && not (q == name)) is_that ∙ ap
    (λ (b : Bool). not b) (not_equal q name (λ (e : _). apart (sym same ∙ e))))) ∙ nowhere)

unless_once : (what : RightKind) (b : Bool) → what ≢ kind.SendOnce → (not (is_send_once_kind what) && b) ≡ false
    → b ≡ false
unless_once kind.Receive b apart e = e
unless_once kind.Send b apart e = e
unless_once kind.SendOnce b apart e = absurd (apart refl)

that_port : (o : Option ℕ) (serial : ℕ) → not (is_number o serial) ≡ false → o ≡ Some serial
that_port None serial e = absurd (cc e)
that_port (Some n) serial e =
    elim (n == serial) as (λ (b : Bool). (n == serial) ≡ b → not b ≡ false → Some n ≡ Some serial) [
      | true ↦ λ (same : _) (_ : _). ap (λ k. Some k) (number_same n serial same)
      | false ↦ λ (_ : _) (e : _). absurd (cc e)
    ] refl e

holds_port : (what : RightKind) (serial : ℕ) (entry : Entry) → is_taken_otherwise what serial (Some entry) ≡ false
    → (what ≢ kind.SendOnce) × (port_held entry ≡ Some serial)
holds_port kind.Receive serial entry e = ((λ (is : _). cc is), that_port (port_held entry) serial e)
holds_port kind.Send serial entry e = ((λ (is : _). cc is), that_port (port_held entry) serial e)
holds_port kind.SendOnce serial entry e = absurd (cc e)

inserted_arrives : (state : Ipc) (space name serial : ℕ) (names : Names) (what : RightKind) → name < 2 ^ 32
    → is_null_or_dead name ≡ false → MidCall state (with_one empty_hand what serial)
    → finmap.get state.spaces space ≡ Some names
    → (not (is_send_once_kind what) && stands_elsewhere names name serial) ≡ false
    → is_taken_otherwise what serial (finmap.get names name) ≡ false
    → (not (is_in_use names name) && names_are_used_up names) ≡ false
    → MidCall (with_names state space (finmap.insert names name (merged_entry what serial (finmap.get names name))))
    empty_hand
inserted_arrives state space name serial names what fits real mid there elsewhere otherwise full =
    elim (finmap.get names name) as (λ (o : Option Entry). finmap.get names name ≡ o
    → is_taken_otherwise what serial o ≡ false → (not (is_some o) && names_are_used_up names) ≡ false
    → MidCall (with_names state space (finmap.insert names name (merged_entry what serial o))) empty_hand) [
      | None ↦ λ (free : _) (_ : _) (room : _).
          (fresh_arrived state space names empty_hand what serial name mid there
          (chosen_unused names name real (ap is_some free) fits) (leb-false MAX_NAMES (finmap.len names) room)
          (λ (apart : _) (has : _). no_name_else names name serial free
          (unless_once what (stands_elsewhere names name serial) apart elsewhere) has)).mid
      | Some entry ↦ λ (at : _) (taken : _) (_ : _).
          let own = holds_port what serial entry taken in
          subst (λ (o : Option Entry). MidCall
          (with_names state space (finmap.insert names name (merged_entry what serial o))) empty_hand) at
          (merged_after state space names empty_hand what serial name entry own.0 mid there at own.1).mid
    ] refl otherwise full

-- (the right that was taken, as it arrives)
inserted_kept : (old : Ipc) (space name serial : ℕ) (taken : Taken) (new : Ipc) (effects : List Effect)
    → name < 2 ^ 32 → is_null_or_dead name ≡ false → MidTaken space empty_hand taken
    → taken.right.port ≡ in_message.Live serial
    → first_failing (tests_of_insert space name taken serial) ≡ None → Inserted (Some taken) space name new effects
    → Kept new effects
inserted_kept old space name serial taken new effects fits real mid port passes done =
    let names : Names = names_in taken.state space in
    let what : RightKind = taken.right.kind in
    let last : Tests = (not (is_in_use names name) && names_are_used_up names, NoSpace) ∷ [] in
    let third : Tests = (passes_bound what (finmap.get names name), UrefsOverflow) ∷ last in
    let second : Tests = (is_taken_otherwise what serial (finmap.get names name), NameExists) ∷ third in
    let one =
    first_passes (not (is_send_once_kind what) && stands_elsewhere names name serial, RightExists) second passes in
    let two = first_passes (is_taken_otherwise what serial (finmap.get names name), NameExists) third one.1 in
    let three = first_passes (passes_bound what (finmap.get names name), UrefsOverflow) last two.1 in
    let four = first_passes (not (is_in_use names name) && names_are_used_up names, NoSpace) [] three.1 in
    let there : finmap.get taken.state.spaces space ≡ Some names =
    mid.there ∙ ap (λ n. Some n) (sym (names_are taken.state space mid.names mid.there)) in
    let in_hand : MidCall taken.state (with_one empty_hand what serial) =
    subst (λ (p : PortInMessage). MidCall taken.state (with_right empty_hand (record { kind = what; port = p })))
    port mid.mid in
    let after : MidCall (with_names taken.state space
    (finmap.insert names name (merged_entry what serial (finmap.get names name)))) empty_hand =
    inserted_arrives taken.state space name serial names what fits real in_hand there one.0 two.0 four.0 in
    let as_said : MidCall (with_names taken.state space (names_after names what taken.right.port name)) empty_hand =
    subst (λ (p : PortInMessage). MidCall (with_names taken.state space (names_after names what p name)) empty_hand)
    (sym port) after in
    done_with_notices (with_names taken.state space (names_after names what taken.right.port name)) new taken.notices
    effects space empty_hand taken mid as_said done.0 done.1

pub insert_kept : (old : Ipc) (space name right_name disposition : ℕ) (names : Names) (answer : PlainReply) (new : Ipc)
    (effects : List Effect) → name < 2 ^ 32 → LawfulAtRest old → Acyclic old → finmap.get old.spaces space ≡ Some names
    → first_failing (tests_of old space names (call.InsertRight name right_name disposition)) ≡ None
    → Done old space names (call.InsertRight name right_name disposition) answer new effects → Kept new effects
unfolding Done tests_of
insert_kept old space name right_name disposition names answer new effects fits lawful acyclic there passes done =
    let last : Tests =
    tests_of_copy_in old space right_name (disposition_of disposition) InvalidCapability
    (tests_of_insert space name) in
    let real = first_passes (is_null_or_dead name, InvalidValue) last passes in
    let copied =
    copied_in old space right_name (disposition_of disposition) InvalidCapability
    (tests_of_insert space name) real.1 in
    let mid =
    taken_mid old empty_hand space right_name names copied.by copied.taken
    (mid_of old lawful acyclic) there copied.is in
    inserted_kept old space name copied.serial copied.taken new effects fits real.0 mid copied.port copied.passes
    (subst (λ (o : Option Taken). Inserted o space name new effects)
    (taken_is old space right_name disposition copied.by copied.taken copied.known copied.is) done.1)

-- A new space.

no_names_weigh : (w : Weight) → names_weigh w finmap.empty ≡ 0
no_names_weigh w = total-empty {X = Entry} (λ n e. entry_weigh w e)

new_space_weighs : (w : Weight) (state : Ipc) (number : ℕ) → finmap.get state.spaces number ≡ None
    → state_weigh w (with_names state number finmap.empty) ≡ state_weigh w state
unfolding state_weigh
new_space_weighs w state number free =
    omega (arith, total-new (λ s n. names_weigh w n) state.spaces number finmap.empty free, no_names_weigh w)

held_elsewhere : (state : Ipc) (number serial set : ℕ) (names : Names) → finmap.get state.spaces number ≡ None
    → IsHeldAlongsideSet state serial set → IsHeldAlongsideSet (with_names state number names) serial set
held_elsewhere state number serial set names free (space, held_names, name, entry, there, at, is, alongside) =
    let apart : space ≢ number = λ (same : _). cc (sym free ∙ ap (finmap.get state.spaces) (sym same) ∙ there) in
    (space, held_names, name, entry, get-there state.spaces number names space apart ∙ there, at, is, alongside)

new_space_mid : (state : Ipc) (number : ℕ) (hand : Hand) → IsUnusedSpace state number → MidCall state hand
    → MidCall (with_names state number finmap.empty) hand
new_space_mid state number hand unused mid = record {
  parts = record {
    first_space = first_there state number finmap.empty mid.parts.first_space.0 mid.parts.first_space.1;
    spaces =
        λ (space : ℕ) (names : Names) (at : _). elim (one_space state number space finmap.empty names at)
        as (λ _. (0 < space) × (space ≤ MAX_SPACES) × LawfulNames names) [
          | inl here ↦ (
            subst (λ (k : ℕ). 0 < k) (sym here.0) unused.least,
            subst (λ (k : ℕ). k ≤ MAX_SPACES) (sym here.0) unused.greatest,
            subst LawfulNames here.1 no_names_lawful,
          )
          | inr before ↦ mid.parts.spaces space names before
        ];
    ports = mid.parts.ports;
    few_ports = mid.parts.few_ports;
    next = mid.parts.next;
  };
  one_receive =
      λ (q : ℕ) (live : _). omega (
        arith,
        mid.one_receive q live,
        new_space_weighs (receive_of q) state number unused.free,
      );
  none_dangles = λ (q : ℕ) (dead : _). new_space_weighs (any_of q) state number unused.free ∙ mid.none_dangles q dead;
  in_hand = mid.in_hand;
  members =
      λ (serial set : ℕ) (port : PortState) (at : _) (is : _). held_elsewhere state number serial set finmap.empty
      unused.free (mid.members serial set port at is);
  acyclic = mid.acyclic;
}

created_kept : (space : ℕ) (taken : Taken) (answer : PlainReply) (new : Ipc) (effects : List Effect)
    → MidTaken space empty_hand taken → Created (Some taken) answer new effects → Kept new effects
created_kept space taken answer new effects mid (number, name, unused, _, may, same, are) =
    let right : CarriedRight = taken.right in
    let made : Ipc = with_names taken.state number finmap.empty in
    let with_space : MidCall made (with_right empty_hand right) =
    new_space_mid taken.state number (with_right empty_hand right) unused mid.mid in
    let arrived =
    arrived_mid made number finmap.empty empty_hand right.kind right.port name with_space
    (get-here taken.state.spaces number finmap.empty) may (λ (_ : _). omega (arith, len-empty nat_cmp Entry)) in
    let named : Names = names_after finmap.empty right.kind right.port name in
    let one_state : MidCall (with_names taken.state number named) empty_hand =
    subst (λ (s : finmap.FinMap nat_cmp Names). MidCall (record taken.state { spaces = s }) empty_hand)
    (insert-insert taken.state.spaces number finmap.empty named) arrived.mid in
    done_with_notices (with_names taken.state number named) new taken.notices effects space empty_hand taken mid
    one_state same are

pub create_kept : (old : Ipc) (space name disposition : ℕ) (names : Names) (answer : PlainReply) (new : Ipc)
    (effects : List Effect) → LawfulAtRest old → Acyclic old → finmap.get old.spaces space ≡ Some names
    → first_failing (tests_of old space names (call.SpaceCreate name disposition)) ≡ None
    → Done old space names (call.SpaceCreate name disposition) answer new effects → Kept new effects
unfolding Done tests_of
create_kept old space name disposition names answer new effects lawful acyclic there passes done =
    let few : Taken → ℕ → Tests = λ taken serial. (nat_le MAX_SPACES (finmap.len old.spaces), ResourceShortage) ∷ [] in
    let last : Tests = tests_of_copy_in old space name (disposition_of disposition) InvalidRight few in
    let known =
    (first_passes (is_none (disposition_of disposition), InvalidValue)
    ((is_no_name names name, InvalidName) ∷ last) passes).1 in
    let in_use = (first_passes (is_no_name names name, InvalidName) last known).1 in
    let copied = copied_in old space name (disposition_of disposition) InvalidRight few in_use in
    let mid =
    taken_mid old empty_hand space name names copied.by copied.taken (mid_of old lawful acyclic) there copied.is in
    created_kept space copied.taken answer new effects mid
    (subst (λ (o : Option Taken). Created o answer new effects)
    (taken_is old space name disposition copied.by copied.taken copied.known copied.is) done)
