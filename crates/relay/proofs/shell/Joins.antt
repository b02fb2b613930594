-- Parts that are joined, and replies that have a line.
use Rattle.std.proofs.Common.{◌≡◌, ℕ, Bool, true, false, List, [], ◌∷◌, ◌++◌, Option, None, Some, inl, inr, ◌+◌, ◌&&◌, Result, Ok, Err, if◌then◌else◌, refl, sym, ap, subst, ◌∙◌, append_assoc}
use Rattle.std.specs.Prelude.{IfOk, IfSome, OnErr, OnOk}
use Rattle.std.specs.Result.{is_ok}
use Rattle.ipc_model.specs.declared.reply.Reply.{Reply}
use Rattle.ipc_model.specs.declared.reply.Reply.TheVariants as reply
use Rattle.ipc_model.specs.declared.plain_reply.PlainReply.{PlainReply}
use Rattle.ipc_model.specs.declared.plain_reply.PlainReply.TheVariants as plain_reply
use Rattle.calls.specs.Replies.{Answers, IsWellFormed}
use Rattle.calls.specs.PlainReplies as plain
use Rattle.script.specs.Replies.{IsOwn, IsPlainOwn}
use Rattle.std.specs.Io.KnownBytes.{Consumes, IsAtEnd}
use Rattle.std.proofs.KnownBytes.{Appends-nil}
use Rattle.relay.specs.Relaying.{Side, TakesAll, as_left}
use Rattle.relay.specs.shell.Answers.{IsReplyTo}
use Rattle.relay.specs.shell.Asking.{asked_read}
use Rattle.relay.specs.shell.Turns.{Does, DoesPart, Hears, Stops, Talk, one_more}
use Rattle.relay.specs.declared.shell.talk.Turn.{Turn}
use Rattle.wire.specs.Writing.{AppendsPart}
use Rattle.wire.specs.declared.fault.WireFault.{WireFault}
use Rattle.std.specs.Io.{StopsAt}
use Rattle.std.specs.Io.BufRead.{strip_last}

pub on_ok_if : {T E Q : Type 0} (r : Result T E) (new x y : List ℕ) → (new ≡ x → Q) → new ≡ (if is_ok r then x else y)
    → OnOk r Q
on_ok_if (Ok v) new x y f is = f is
on_ok_if (Err e) new x y f is = tt

pub joined : (old x y z m first second third fourth : List ℕ) → first ≡ old ++ x → second ≡ first ++ y
    → third ≡ second ++ z → fourth ≡ third ++ m → fourth ≡ old ++ (x ++ (y ++ (z ++ m)))
joined old x y z m first second third fourth a b c d =
    d ∙ ap (λ l. l ++ m) (c ∙ ap (λ l. l ++ z) (b ∙ ap (λ l. l ++ y) a))
    ∙ append_assoc ((old ++ x) ++ y) z m ∙ append_assoc (old ++ x) y (z ++ m) ∙ append_assoc old x (y ++ (z ++ m))

pub chosen : (b : Bool) (x y : ℕ) → b ≡ true → x ≡ (if b then x else y)
chosen true x y is = refl
chosen false x y is = absurd cc

pub not_chosen : (b : Bool) (x y : ℕ) → b ≡ false → y ≡ (if b then x else y)
not_chosen true x y is = absurd cc
not_chosen false x y is = refl

-- a reply to a call can be written after the call
plain_own : (answer : PlainReply) → plain.IsWellFormed answer → IsPlainOwn answer
plain_own (plain_reply.Refused number code) well = well.0
plain_own (plain_reply.Done number) well = well
plain_own answer well = tt

own : (answer : Reply) → IsWellFormed answer → IsOwn answer
own (reply.Plain answer) well = plain_own answer well
own (reply.Numbered answer) well = plain_own answer.reply well
own (reply.Repeated answer) well = well

pub has_line : {E : Type 0} (r : Result (Option Reply) E) (number : ℕ) (content : List ℕ)
    → IfOk r (λ found. IfSome found (Answers number content))
    → IfOk r (λ found. IfSome found (IsReplyTo number content))
has_line (Ok (Some answer)) number content found =
    record { answers = found; own = own answer found.well_formed }
has_line (Ok None) number content found = tt
has_line (Err e) number content found = tt

-- the end of known bytes is reached when all were consumed
pub takes_all : (old new : Option (List ℕ)) (bytes : List ℕ) → IsAtEnd old → Consumes old new bytes → TakesAll old new
takes_all None new bytes end taken = tt
takes_all (Some xs) None bytes end taken = absurd taken
takes_all (Some xs) (Some ys) [] end taken = (end, ap (λ (l : List ℕ). Some l) (sym taken ∙ end))
takes_all (Some xs) (Some ys) (b ∷ bytes) end taken = absurd (cc)

pub at_any : {T E P : Type 0} (r : Result T E) → P → OnErr r P
at_any (Ok x) p = tt
at_any (Err e) p = p

pub none_done : (r : Result Turn WireFault) (number : ℕ) (peer : Side) (written : Option (List ℕ))
    → OnErr r (DoesPart number peer written written)
none_done r number peer written = at_any r ([], inl refl, ([], [], refl, Appends-nil written))

pub part_said : (r : Result Turn WireFault) (number : ℕ) (line : List ℕ) (peer peer_new : Side)
    (written written_new : Option (List ℕ)) (text : List ℕ) (well : Bool)
    → Hears number (asked_read line) peer peer_new text well → AppendsPart written written_new text
    → OnErr r (DoesPart number peer written written_new)
part_said r number line peer peer_new written written_new text well heard part =
    at_any r (text, inr (line, peer_new, well, heard), part)

-- no line could be read
pub stopped_reading : (r : Result Bool WireFault) (own peer own_mid peer_mid : Side) (left : Option (List ℕ)) (n : ℕ)
    (well : Bool) → Talk own peer n well own_mid peer_mid → OnErr r (Stops own peer (as_left left own_mid))
stopped_reading r own peer own_mid peer_mid left n well lines = at_any r (record {
  count = n;
  well = well;
  own_mid = own_mid;
  peer_mid = peer_mid;
  lines = lines;
  part = ([], inl refl, ([], [], refl, Appends-nil own_mid.written));
})

-- one more line
pub goes_on : (own peer own_mid peer_mid own_new peer_new : Side) (n : ℕ) (well now all : Bool) (taken line : List ℕ)
    → Talk own peer n well own_mid peer_mid → Consumes own_mid.left own_new.left taken → StopsAt taken 10
    → line ≡ strip_last 10 taken → Does (n + 1) line peer_mid peer_new own_mid.written own_new.written now
    → own_new.waiting ≡ [] → all ≡ (well && now) → Talk own peer (n + 1) all own_new peer_new
goes_on own peer own_mid peer_mid own_new peer_new n well now all taken line so_far read one stripped does flushed is =
    subst (λ (b : Bool). Talk own peer (n + 1) b own_new peer_new) (sym is)
    (one_more n well now own_mid peer_mid own_new peer_new so_far (record {
      taken = taken;
      read = read;
      one = one;
      done = subst (λ (l : List ℕ). Does (n + 1) l peer_mid peer_new own_mid.written own_new.written now) stripped does;
      flushed = flushed;
    }))
