-- The replies that spaces may keep, by kind.
use Rattle.std.proofs.Common.{◌≡◌, ◌≢◌, ◌⊎◌, ℕ, ◌<◌, ◌≤◌, ◌^◌, Bool, true, false, ◌==◌, ◌||◌, IsTrue, List, [], length, Option, Some, inl, inr, refl, sym, ap, subst, arith}
use Rattle.std.proofs.lemmas.Bool.Decides.{Decides-eqb}
use Rattle.codes.specs.declared.call_number.TheConstants.{NUMBERED, MACH_PORT_RENAME, MACH_PORT_ALLOCATE_NAME, MACH_PORT_DESTROY, MACH_PORT_DEALLOCATE, MACH_PORT_MOD_REFS, MACH_PORT_SET_QLIMIT, MACH_PORT_SET_MSCOUNT, MACH_PORT_SET_SEQNO, MACH_PORT_MOVE_MEMBER, MACH_PORT_INSERT_RIGHT}
use Rattle.codes.specs.declared.kern_return.KernReturn.TheVariants.{Success, RcvTooLarge}
use Rattle.ipc_model.specs.calls.PlainStep.{may_be_numbered}
use Rattle.ipc_model.specs.declared.plain_call.PlainCall.{PlainCall}
use Rattle.ipc_model.specs.declared.plain_call.PlainCall.TheVariants as call
use Rattle.ipc_model.specs.declared.plain_reply.PlainReply.{PlainReply}
use Rattle.ipc_model.specs.declared.plain_reply.PlainReply.TheVariants as reply
use Rattle.ipc_model.specs.declared.reply.NumberedReply.{NumberedReply}
use Rattle.ipc_model.specs.declared.reply.Reply.TheVariants.{Numbered}
use Rattle.ipc_model.specs.encodings.Encodings.{numbered_encoding}
use Rattle.ipc_model.specs.encodings.PlainCalls.{reply_encoding, FitsReply, IsRecordedReply}
use Rattle.ipc_model.specs.state.LawfulState.{IsKeptReply}
use Rattle.ipc_laws.specs.RecordedReplies.{HasReply, replies_by_call}
use Rattle.calls.specs.Replies.{Answers}
use Rattle.calls.proofs.PlainReplies.{record_replies}
use Rattle.kept_reply.specs.Kinds.{is_numbered_without_results, IsOfNumbered}

-- some call that may be numbered has the reply in its record
HasCall : PlainReply → Type 0
HasCall r = (c : PlainCall) × (may_be_numbered c ≡ true) × IsRecordedReply c r

-- the call with this number, if it has no results
done_of : (c : PlainCall) (n m : ℕ) → may_be_numbered c ≡ true → HasReply c (reply.Done m) → (n == m) ≡ true
    → HasCall (reply.Done n)
unfolding HasCall
done_of c n m may has same =
    let e : n ≡ m = (Decides-eqb n m).0 same in
    subst (λ (k : ℕ). (d : PlainCall) × (may_be_numbered d ≡ true) × IsRecordedReply d (reply.Done k)) (sym e)
    (c, may, (replies_by_call c (reply.Done m)).1 has)

either : (a b : Bool) → (a || b) ≡ true → (a ≡ true) ⊎ (b ≡ true)
either true b is = inl refl
either false b is = inr is

or_else : {X : Type 0} (a b : Bool) → (a || b) ≡ true → (a ≡ true → X) → (b ≡ true → X) → X
or_else {X} a b is first second = elim (either a b is) as (λ _. X) [ inl one ↦ first one | inr other ↦ second other ]

-- one of some numbers, or this one
or_last : (front : Bool) (n m : ℕ) (c : PlainCall) → may_be_numbered c ≡ true → HasReply c (reply.Done m)
    → (front ≡ true → HasCall (reply.Done n)) → (front || n == m) ≡ true → HasCall (reply.Done n)
or_last front n m c may has first is = or_else front (n == m) is first (done_of c n m may has)

done_by : (n : ℕ) → is_numbered_without_results n ≡ true → HasCall (reply.Done n)
done_by n =
    or_last _ n MACH_PORT_INSERT_RIGHT (call.InsertRight 0 0 0) refl refl
    (or_last _ n MACH_PORT_MOVE_MEMBER (call.MoveMember 0 0) refl refl
    (or_last _ n MACH_PORT_SET_SEQNO (call.SetSeqno 0 0) refl refl
    (or_last _ n MACH_PORT_SET_MSCOUNT (call.SetMscount 0 0) refl refl
    (or_last _ n MACH_PORT_SET_QLIMIT (call.SetQlimit 0 0) refl refl
    (or_last _ n MACH_PORT_MOD_REFS (call.ModRefs 0 0 0) refl refl
    (or_last _ n MACH_PORT_DEALLOCATE (call.Deallocate 0) refl refl
    (or_last _ n MACH_PORT_DESTROY (call.Destroy 0) refl refl
    (or_last _ n MACH_PORT_ALLOCATE_NAME (call.AllocateName 0 0) refl refl
    (done_of (call.Rename 0 0) n MACH_PORT_RENAME refl refl)))))))))

call_by : (r : PlainReply) → FitsReply r → IsOfNumbered r → HasCall r
unfolding HasCall
call_by (reply.Done number) fits is = done_by number is
call_by (reply.Allocate name) fits is =
    (call.Allocate 0, refl, (replies_by_call (call.Allocate 0) (reply.Allocate name)).1 (name, fits, refl))
call_by (reply.PreviousTarget name) fits is = (
  call.RequestNotification 0 0 0 0 0,
  refl,
  (replies_by_call (call.RequestNotification 0 0 0 0 0) (reply.PreviousTarget name)).1 (name, fits, refl),
)
call_by (reply.Extracted name kind) fits is = (
  call.ExtractRight 0 0,
  refl,
  (replies_by_call (call.ExtractRight 0 0) (reply.Extracted name kind)).1 (name, kind, fits, refl),
)
call_by (reply.SpaceCreated space name) fits is = (
  call.SpaceCreate 0 0,
  refl,
  (replies_by_call (call.SpaceCreate 0 0) (reply.SpaceCreated space name)).1 (space, name, fits.0, fits.1, refl),
)
call_by (reply.Message code size member message) fits (inl is) = (
  call.Send [],
  refl,
  (replies_by_call (call.Send []) (reply.Message code size member message)).1
      (λ i. reply.Message (is.0 i) (is.1 i) (is.2 i) (is.3 i)),
)
call_by (reply.Message Success size member message) fits (inr is) = (
  call.Receive size false 0 false,
  refl,
  (replies_by_call (call.Receive size false 0 false) (reply.Message Success size member message)).1 (inl (record {
    size = size;
    member = member;
    message = message;
    has_size = is.0;
    of_port = (is.1, is.2);
    within = omega arith;
    whole = is.3;
    bytes = fits.2;
    answer_is = refl;
  })),
)
call_by (reply.Message RcvTooLarge size member message) fits (inr is) = (
  call.Receive 0 false 0 false,
  refl,
  (replies_by_call (call.Receive 0 false 0 false) (reply.Message RcvTooLarge size member message)).1 (inr (record {
    without = refl;
    size = size;
    member = member;
    has_size = is.0;
    of_port = (is.1, is.2);
    above = omega (arith, is.0.0);
    answer_is = ap (reply.Message RcvTooLarge size member) is.3;
  })),
)
call_by (reply.Message code size member message) fits (inr is) = absurd is.3
call_by r fits is = absurd is

kind_by : (c : PlainCall) (r : PlainReply) → may_be_numbered c ≡ true → HasReply c r → IsOfNumbered r
kind_by (call.Rename from to) r may is = subst IsOfNumbered (sym is) refl
kind_by (call.AllocateName kind name) r may is = subst IsOfNumbered (sym is) refl
kind_by (call.Destroy name) r may is = subst IsOfNumbered (sym is) refl
kind_by (call.Deallocate name) r may is = subst IsOfNumbered (sym is) refl
kind_by (call.ModRefs name kind delta) r may is = subst IsOfNumbered (sym is) refl
kind_by (call.SetQlimit name limit) r may is = subst IsOfNumbered (sym is) refl
kind_by (call.SetMscount name count) r may is = subst IsOfNumbered (sym is) refl
kind_by (call.SetSeqno name seqno) r may is = subst IsOfNumbered (sym is) refl
kind_by (call.MoveMember member after) r may is = subst IsOfNumbered (sym is) refl
kind_by (call.InsertRight name right_name disposition) r may is = subst IsOfNumbered (sym is) refl
kind_by (call.Allocate kind) r may is = subst IsOfNumbered (sym is.2) tt
kind_by (call.RequestNotification name variant sync notify_name disposition) r may is =
    subst IsOfNumbered (sym is.2) tt
kind_by (call.ExtractRight name disposition) r may is = subst IsOfNumbered (sym is.3) tt
kind_by (call.SpaceCreate name disposition) r may is = subst IsOfNumbered (sym is.4) tt
kind_by (call.Send message) r may is = subst IsOfNumbered (sym is) (inl (refl, refl, refl, refl))
kind_by (call.Receive limit large name waited) r may (inl is) =
    subst IsOfNumbered (sym is.answer_is) (inr (is.has_size, is.of_port.0, is.of_port.1, is.whole))
kind_by (call.Receive limit large name waited) r may (inr is) =
    subst IsOfNumbered (sym is.answer_is) (inr (is.has_size, is.of_port.0, is.of_port.1, refl))
kind_by call.SpaceDestroy r may is = absurd (cc may)
kind_by c r may is = absurd is

kind_of : (kept : NumberedReply) → IsKeptReply kept → IsOfNumbered kept.reply
kind_of kept is = kind_by is.call kept.reply is.numbered ((replies_by_call is.call kept.reply).0 is.reply)

true_unless : (b : Bool) → (b ≡ false → ⊥) → b ≡ true
true_unless true unless = refl
true_unless false unless = absurd (unless refl)

-- the test by kind decides whether a space may keep a reply
pub kept_by_kind : (kept : NumberedReply) (b : Bool) → kept.request ≢ 0 → kept.request < 2 ^ 32
    → (IsOfNumbered kept.reply → FitsReply kept.reply) → (b ≡ true → IsOfNumbered kept.reply)
    → (b ≡ false → IsOfNumbered kept.reply → ⊥)
    → (IsTrue b → IsKeptReply kept) × (IsKeptReply kept → IsTrue b)
unfolding HasCall
kept_by_kind kept b some small fits judged denied = (
  (λ is.
      let kind = judged is in
      let c = call_by kept.reply (fits kind) kind in
      record { request = (omega (arith, some), small); call = c.0; numbered = c.1; reply = c.2 }),
  (λ is. true_unless b (λ none. denied none (kind_of kept is))),
)

short : (r : PlainReply) → IsOfNumbered r → length (reply_encoding r) ≤ 8208
unfolding reply_encoding
short (reply.Done number) is = omega arith
short (reply.Allocate name) is = omega arith
short (reply.PreviousTarget name) is = omega arith
short (reply.Extracted name kind) is = omega arith
short (reply.SpaceCreated space name) is = omega arith
short (reply.Message code size member message) (inl is) = omega (arith, ap length is.3)
short (reply.Message Success size member message) (inr is) = omega (arith, is.3, is.0.1)
short (reply.Message RcvTooLarge size member message) (inr is) = omega (arith, ap length is.3)
short (reply.Message code size member message) (inr is) = absurd is.3
short r is = absurd is

-- a reply that may be kept is short
pub short_kept : (kept : NumberedReply) → IsKeptReply kept → length (numbered_encoding kept) ≤ 8220
short_kept kept is = omega (arith, short kept.reply (kind_of kept is))

-- a reply that may be kept answers a numbered call
pub kept_answers : (kept : NumberedReply) (content : List ℕ) → IsKeptReply kept → content ≡ numbered_encoding kept
    → Answers NUMBERED content (Numbered kept)
kept_answers kept content is text = record {
  text = text;
  fits = (is.request.1, is.reply.fits);
  of_call = refl;
  well_formed = (record_replies is.call (reply_encoding kept.reply) kept.reply is.reply refl).well_formed;
}

pub same_kept : (found : Option NumberedReply) (k kept : NumberedReply) → found ≡ Some k → found ≡ Some kept → k ≡ kept
same_kept found k kept is same = cc
