-- Lists that are read one element after another.
use Rattle.std.proofs.Common.{◌≡◌, ℕ, suc, ◌<◌, List, [], ◌∷◌, ◌++◌, length, refl, sym, ap, ◌∙◌, arith, Option, Some, None, Ok, Err, append_assoc, append-nil}
use Rattle.ipc_model.specs.declared.plain_reply.NamedType.{NamedType}
use Rattle.script.specs.declared.vocabulary.kind.Kind.TheVariants.{Hexadecimal}
use Rattle.script.specs.vocabulary.Kinds.{read_word}
use Rattle.script.specs.declared.fault.Fault.{Fault}
use Rattle.script.specs.declared.fault.Fault.TheVariants as fault
use Rattle.script.specs.declared.fault.Expected.TheVariants.{Number}
use Rattle.script.specs.declared.fault.Stop.{Stop}
use Rattle.script.specs.Reading.{Reading, ◌>>=◌, stop, wanted, number_at, value_at, Fails}
use Rattle.script.specs.Replies.{in_front_of, named_at, member_at, names_at, members_at}

-- the elements that are read, after those that were read before
abbrev pub after_all : {A : Type 0} → List A → Reading (List A) → Reading (List A)
after_all done read = read >>= λ rest. Ok (done ++ rest)

abbrev pub after_one : {A : Type 0} → (List (List ℕ) → Reading (List A)) → Reading (Option (A × List (List ℕ)))
    → Reading (List A)
after_one all (Err place) = Err place
after_one all (Ok None) = Ok []
after_one all (Ok (Some (x, words))) = in_front_of x (all words)

abbrev typed : ℕ → ℕ × List (List ℕ) → Reading (Option (NamedType × List (List ℕ)))
typed n b = Ok (Some (record { name = n; bits = b.0 }, b.1))

abbrev named : ℕ × List (List ℕ) → Reading (Option (NamedType × List (List ℕ)))
named n = value_at Hexadecimal n.1 >>= typed n.0

abbrev one : ℕ × List (List ℕ) → Reading (Option (ℕ × List (List ℕ)))
one n = Ok (Some n)

-- a number uses up the first word
value_front : (w : List ℕ) (words : List (List ℕ))
    → value_at Hexadecimal (w ∷ words)
    ≡ (wanted Number (w ∷ words) (read_word Hexadecimal w) >>= λ (n : ℕ). Ok (n, words))
unfolding value_at number_at
value_front w words =
    elim (read_word Hexadecimal w)
    as (λ (o : Option ℕ). wanted Number (w ∷ words)
    (elim o as (λ _. Option (ℕ × List (List ℕ))) [ None ↦ None | Some n ↦ Some (n, words) ])
    ≡ (wanted Number (w ∷ words) o >>= λ (n : ℕ). Ok (n, words))) [ None ↦ refl | Some n ↦ refl ]

none_left : value_at Hexadecimal [] ≡ stop Number []
unfolding value_at number_at
none_left = refl

names_unroll : (words : List (List ℕ)) → names_at words ≡ after_one names_at (named_at words)
unfolding names_at named_at
names_unroll [] = refl
names_unroll (w ∷ []) =
    rw (value_front w []) (elim (wanted Number (w ∷ []) (read_word Hexadecimal w))
    as (λ (o : Reading ℕ). ((o >>= λ (n : ℕ). Ok (n, [])) >>= λ (n : ℕ × List (List ℕ)). stop Number [])
    ≡ after_one names_at ((o >>= λ (n : ℕ). Ok (n, [])) >>= named)) [ Err place ↦ refl | Ok n ↦ rw none_left refl ])
names_unroll (w ∷ s ∷ words) =
    rw (value_front w (s ∷ words))
    (elim (wanted Number (w ∷ s ∷ words) (read_word Hexadecimal w)) as (λ (o : Reading ℕ).
    ((o >>= λ (n : ℕ). Ok (n, s ∷ words)) >>= λ (n : ℕ × List (List ℕ)). value_at Hexadecimal
    (s ∷ words) >>= λ (b : ℕ × List (List ℕ)). in_front_of (record { name = n.0; bits = b.0 }) (names_at words))
    ≡ after_one names_at ((o >>= λ (n : ℕ). Ok (n, s ∷ words)) >>= named)) [
      | Err place ↦ refl
      | Ok n ↦ rw (value_front s words)
          (elim (wanted Number (s ∷ words) (read_word Hexadecimal s)) as (λ (o : Reading ℕ).
          ((o >>= λ (b : ℕ). Ok (b, words)) >>= λ (b : ℕ × List (List ℕ)). in_front_of (record { name = n; bits = b.0 })
          (names_at words))
          ≡ after_one names_at ((o >>= λ (b : ℕ). Ok (b, words)) >>= typed n)) [ Err place ↦ refl | Ok b ↦ refl ])
    ])

members_unroll : (words : List (List ℕ)) → members_at words ≡ after_one members_at (member_at words)
unfolding members_at member_at
members_unroll [] = refl
members_unroll (w ∷ words) =
    rw (value_front w words) (elim (wanted Number (w ∷ words) (read_word Hexadecimal w)) as (λ (o : Reading ℕ).
    ((o >>= λ (n : ℕ). Ok (n, words)) >>= λ (n : ℕ × List (List ℕ)). in_front_of n.0 (members_at words))
    ≡ after_one members_at ((o >>= λ (n : ℕ). Ok (n, words)) >>= one)) [ Err place ↦ refl | Ok n ↦ refl ])

more : {A : Type 0} (done : List A) (x : A) (rest : Reading (List A))
    → after_all (done ++ x ∷ []) rest ≡ after_all done (in_front_of x rest)
more done x (Err place) = refl
more done x (Ok xs) = ap Ok (append_assoc done (x ∷ []) xs)

pub names_more : (done : List NamedType) (x : NamedType) (words rest : List (List ℕ))
    → named_at words ≡ Ok (Some (x, rest))
    → after_all (done ++ x ∷ []) (names_at rest) ≡ after_all done (names_at words)
names_more done x words rest e =
    more done x (names_at rest) ∙ sym (ap (after_all done) (names_unroll words ∙ ap (after_one names_at) e))

pub names_end : (done : List NamedType) (words : List (List ℕ)) → named_at words ≡ Ok None
    → after_all done (names_at words) ≡ Ok done
names_end done words e = ap (after_all done) (names_unroll words ∙ ap (after_one names_at) e) ∙ ap Ok (append-nil done)

pub names_stop : (done : List NamedType) (words : List (List ℕ)) (place : Stop) → named_at words ≡ Err place
    → after_all done (names_at words) ≡ Err place
names_stop done words place e = ap (after_all done) (names_unroll words ∙ ap (after_one names_at) e)

pub members_more : (done : List ℕ) (x : ℕ) (words rest : List (List ℕ)) → member_at words ≡ Ok (Some (x, rest))
    → after_all (done ++ x ∷ []) (members_at rest) ≡ after_all done (members_at words)
members_more done x words rest e =
    more done x (members_at rest) ∙ sym (ap (after_all done) (members_unroll words ∙ ap (after_one members_at) e))

pub members_end : (done : List ℕ) (words : List (List ℕ)) → member_at words ≡ Ok None
    → after_all done (members_at words) ≡ Ok done
members_end done words e =
    ap (after_all done) (members_unroll words ∙ ap (after_one members_at) e) ∙ ap Ok (append-nil done)

pub members_stop : (done : List ℕ) (words : List (List ℕ)) (place : Stop) → member_at words ≡ Err place
    → after_all done (members_at words) ≡ Err place
members_stop done words place e = ap (after_all done) (members_unroll words ∙ ap (after_one members_at) e)

-- each element uses up words
bind_some : {A B : Type 0} (o : Reading A) (f : A → Reading B) (y : B) → (o >>= f) ≡ Ok y → (x : A) × (o ≡ Ok x)
    × (f x ≡ Ok y)
bind_some (Err place) f y e = absurd (cc)
bind_some (Ok x) f y e = (x, refl, e)

wanted_some : {A : Type 0} (o : Option A) (words : List (List ℕ)) (x : A) → wanted Number words o ≡ Ok x → o ≡ Some x
wanted_some None words x e = absurd (cc)
wanted_some (Some y) words x e = cc

pub number_less : (words : List (List ℕ)) (p : ℕ × List (List ℕ)) → number_at Hexadecimal words ≡ Some p
    → length p.1 < length words
unfolding number_at
number_less [] p e = absurd (cc)
number_less (w ∷ words) p e =
    elim (read_word Hexadecimal w)
    as (λ (o : Option ℕ). elim o as (λ _. Option (ℕ × List (List ℕ))) [ None ↦ None | Some n ↦ Some (n, words) ]
    ≡ Some p → length p.1 < suc (length words)) [
      | None ↦ λ (wrong : _). absurd (cc)
      | Some n ↦ λ (is : _).
          let same : (n, words) ≡ p = cc in
          let rest : words ≡ p.1 = ap (λ (q : ℕ × List (List ℕ)). q.1) same in
          omega (arith, ap length rest)
    ] e

value_less : (words : List (List ℕ)) (p : ℕ × List (List ℕ)) → value_at Hexadecimal words ≡ Ok p
    → length p.1 < length words
unfolding value_at
value_less words p e = number_less words p (wanted_some (number_at Hexadecimal words) words p e)

pub member_less : (words rest : List (List ℕ)) (n : ℕ) → member_at words ≡ Ok (Some (n, rest))
    → length rest < length words
unfolding member_at
member_less [] rest n e = absurd (cc)
member_less (w ∷ words) rest n e =
    let found = bind_some (value_at Hexadecimal (w ∷ words)) one (Some (n, rest)) e in
    let same : found.0 ≡ (n, rest) = cc in
    let is : found.0.1 ≡ rest = ap (λ (q : ℕ × List (List ℕ)). q.1) same in
    omega (arith, value_less (w ∷ words) found.0 found.1, ap length is)

abbrev some_pair : NamedType → List (List ℕ) → Reading (Option (NamedType × List (List ℕ)))
some_pair m a = Ok (Some (m, a))

typed_rest : (m n : NamedType) (a rest : List (List ℕ)) → some_pair m a ≡ some_pair n rest → a ≡ rest
typed_rest m n a rest e = let inner : (m, a) ≡ (n, rest) = cc in ap (λ (q : NamedType × List (List ℕ)). q.1) inner

pub named_less : (words rest : List (List ℕ)) (n : NamedType) → named_at words ≡ Ok (Some (n, rest))
    → length rest < length words
unfolding named_at
named_less [] rest n e = absurd (cc)
named_less (w ∷ words) rest n e =
    let first = bind_some (value_at Hexadecimal (w ∷ words)) named (Some (n, rest)) e in
    let second = bind_some (value_at Hexadecimal first.0.1) (typed first.0.0) (Some (n, rest)) first.2 in
    let is : second.0.1 ≡ rest =
    typed_rest (record { name = first.0.0; bits = second.0.0 }) n second.0.1 rest second.2 in
    omega (arith, value_less (w ∷ words) first.0 first.1, value_less first.0.1 second.0 second.1, ap length is)

pub names_fault : (e : Fault) (done : List NamedType) (words : List (List ℕ)) (all : Reading (List NamedType))
    → Fails e (named_at words) → after_all done (names_at words) ≡ all → Fails e all
names_fault fault.NoMemory done words all fails is = tt
names_fault (fault.Unreadable place) done words all fails is = sym is ∙ names_stop done words place fails

pub members_fault : (e : Fault) (done : List ℕ) (words : List (List ℕ)) (all : Reading (List ℕ))
    → Fails e (member_at words) → after_all done (members_at words) ≡ all → Fails e all
members_fault fault.NoMemory done words all fails is = tt
members_fault (fault.Unreadable place) done words all fails is = sym is ∙ members_stop done words place fails
