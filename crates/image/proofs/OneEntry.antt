-- Facts about an entry from the first byte of its encoding, and the encoding of an entry in its parts.
use Rattle.std.proofs.Common.{◌≡◌, ℕ, ◌<◌, ◌^◌, ◌++◌, [], ◌∷◌, List, Option, Result, Ok, Err, OnOk, length, drop, refl, sym, ◌∙◌, ap, subst, arith, length-append}
use Rattle.std.specs.declared.alloc.AllocError.{AllocError}
use Rattle.image.specs.Parts.{added}
use Rattle.ipc_laws.specs.ImageLaws.{EncodableEntry}
use Rattle.ipc_model.specs.declared.entry.Entry.{Entry}
use Rattle.ipc_model.specs.declared.entry.Entry.TheVariants.{Port, SendOnce, Set, Dead}
use Rattle.ipc_model.specs.declared.entry.PortRights.{PortRights}
use Rattle.ipc_model.specs.encodings.Images.{entry_encoding, number_or_0}
use Rattle.ipc_model.specs.encodings.PlainCalls.{number_of_bool}
use Rattle.words.specs.Words.{word, long_word}
use Rattle.words.specs.WordLaws.{length-word, length-long_word}

module _ (bytes : List ℕ) (kind : ℕ) (beyond : List ℕ) (begins : bytes ≡ kind ∷ beyond)
    (P : Entry → List ℕ → Type 0) where
  pub rights_alone : kind ≡ 1 →
      ((rights : PortRights) (rest : List ℕ) → EncodableEntry (Port rights)
      → 1 ∷ beyond ≡ entry_encoding (Port rights) ++ rest → P (Port rights) rest)
      → (entry : Entry) (rest : List ℕ) → EncodableEntry entry → bytes ≡ entry_encoding entry ++ rest → P entry rest
  rights_alone is f (Port rights) rest fits e =
      f rights rest fits (subst (λ (k : ℕ). k ∷ beyond ≡ entry_encoding (Port rights) ++ rest) is (sym begins ∙ e))
  rights_alone is f (SendOnce port target) rest fits e = absurd (cc (is, begins, e))
  rights_alone is f Set rest fits e = absurd (cc (is, begins, e))
  rights_alone is f (Dead references) rest fits e = absurd (cc (is, begins, e))

  pub send_once_alone : kind ≡ 2
      → ((port : ℕ) (target : Option ℕ) (rest : List ℕ) → EncodableEntry (SendOnce port target)
      → 2 ∷ beyond ≡ entry_encoding (SendOnce port target) ++ rest → P (SendOnce port target) rest)
      → (entry : Entry) (rest : List ℕ) → EncodableEntry entry → bytes ≡ entry_encoding entry ++ rest → P entry rest
  send_once_alone is f (Port rights) rest fits e = absurd (cc (is, begins, e))
  send_once_alone is f (SendOnce port target) rest fits e =
      f port target rest fits (subst
      (λ (k : ℕ). k ∷ beyond ≡ entry_encoding (SendOnce port target) ++ rest) is (sym begins ∙ e))
  send_once_alone is f Set rest fits e = absurd (cc (is, begins, e))
  send_once_alone is f (Dead references) rest fits e = absurd (cc (is, begins, e))

pub set_alone : (bytes : List ℕ) (kind : ℕ) (beyond : List ℕ) → bytes ≡ kind ∷ beyond → kind ≡ 3
    → (entry : Entry) (rest : List ℕ) → EncodableEntry entry → bytes ≡ entry_encoding entry ++ rest → (Set ≡ entry)
    × (beyond ≡ rest)
set_alone bytes kind beyond begins is (Port rights) rest fits e = absurd (cc (is, begins, e))
set_alone bytes kind beyond begins is (SendOnce port target) rest fits e = absurd (cc (is, begins, e))
set_alone bytes kind beyond begins is Set rest fits e = (refl, ap (drop 1) (sym begins ∙ e))
set_alone bytes kind beyond begins is (Dead references) rest fits e = absurd (cc (is, begins, e))

pub dead_alone : (bytes : List ℕ) (kind : ℕ) (beyond : List ℕ) → bytes ≡ kind ∷ beyond → kind ≡ 4
    → (P : Entry → List ℕ → Type 0)
    → ((references : ℕ) (rest : List ℕ) → references < 2 ^ 32 → beyond ≡ word references ++ rest
    → P (Dead references) rest)
    → (entry : Entry) (rest : List ℕ) → EncodableEntry entry → bytes ≡ entry_encoding entry ++ rest → P entry rest
dead_alone bytes kind beyond begins is P f (Port rights) rest fits e = absurd (cc (is, begins, e))
dead_alone bytes kind beyond begins is P f (SendOnce port target) rest fits e = absurd (cc (is, begins, e))
dead_alone bytes kind beyond begins is P f Set rest fits e = absurd (cc (is, begins, e))
dead_alone bytes kind beyond begins is P f (Dead references) rest fits e =
    f references rest fits (ap (drop 1) (sym begins ∙ e))

on_ok : {T E P Q : Type 0} (result : Result T E) → (P → Q) → OnOk result P → OnOk result Q
on_ok (Ok done) f holds = f holds
on_ok (Err e) f holds = holds

-- the rights to a port, appended part by part
pub rights_added : (result : Result (Unit {0}) AllocError) (entry : Entry) (rights : PortRights)
    (old a b c d end : List ℕ) (byte : ℕ) → entry ≡ Port rights → a ≡ old ++ 1 ∷ [] → b ≡ a ++ long_word rights.port
    → byte ≡ number_of_bool rights.receive → c ≡ b ++ byte ∷ [] → d ≡ c ++ word rights.send
    → OnOk result (end ≡ d ++ long_word (number_or_0 rights.dead_name_target))
    → OnOk result (end ≡ old ++ entry_encoding entry)
rights_added result entry rights old a b c d end byte is is_a is_b flag is_c is_d ends =
    let target : List ℕ = long_word (number_or_0 rights.dead_name_target) in
    let sends : List ℕ = word rights.send ++ target in
    let receives : List ℕ = number_of_bool rights.receive ∷ sends in
    subst (λ (e : Entry). OnOk result (end ≡ old ++ entry_encoding e)) (sym is) (on_ok result (λ is_end.
    let to_c : end ≡ c ++ sends = added c d (word rights.send) target end is_d is_end in
    let to_b : end ≡ b ++ receives =
    added b c (number_of_bool rights.receive ∷ []) sends end (is_c ∙ ap (λ (n : ℕ). b ++ n ∷ []) flag) to_c in
    let to_a : end ≡ a ++ (long_word rights.port ++ receives) =
    added a b (long_word rights.port) receives end is_b to_b in
    added old a (1 ∷ []) (long_word rights.port ++ receives) end is_a to_a) ends)

-- fewer than four bytes don't begin with a word
pub no_word : {X : Type 0} (bytes : List ℕ) (n : ℕ) (rest : List ℕ) → length bytes < 4 → bytes ≡ word n ++ rest → X
no_word bytes n rest few is = absurd (omega (arith, few, ap length is, length-append (word n) rest, length-word n))

pub no_long_word : {X : Type 0} (bytes : List ℕ) (n : ℕ) (rest : List ℕ) → length bytes < 8
    → bytes ≡ long_word n ++ rest → X
no_long_word bytes n rest few is =
    absurd (omega (arith, few, ap length is, length-append (long_word n) rest, length-long_word n))
