-- Bodies read item by item.
use Rattle.std.proofs.Common.{◌≡◌, ℕ, zero, suc, ◌-◌, ◌<◌, List, [], ◌∷◌, ◌++◌, length, refl, sym, ap, ◌∙◌, arith, Option, Some, None, Ok, Err, append_assoc}
use Rattle.std.specs.Prelude.{codes}
use Rattle.std.proofs.lemmas.List.{append-nil}
use Rattle.script.specs.declared.vocabulary.kind.Kind.TheVariants.{Hexadecimal}
use Rattle.script.specs.vocabulary.Kinds.{read_word}
use Rattle.script.specs.declared.fault.Fault.{Fault}
use Rattle.script.specs.declared.fault.Fault.TheVariants as fault
use Rattle.script.specs.Bytes.{optional_bytes_at}
use Rattle.script.specs.Items.{numbers_at, item_at, after_bytes, parts_at, body_at}
use Rattle.script.specs.Reading.{Reading, ◌>>=◌, number_at, label_at, Fails}

-- a number is read after others
abbrev with_done : List ℕ → List ℕ × List (List ℕ) → List ℕ × List (List ℕ)
with_done done p = (done ++ p.0, p.1)

abbrev or_number : List ℕ → List (List ℕ) → Option ℕ → List ℕ × List (List ℕ)
or_number w words o =
    elim o as (λ _. List ℕ × List (List ℕ))
    [ None ↦ ([], w ∷ words) | Some m ↦ (m ∷ (numbers_at words).0, (numbers_at words).1) ]

pub number_read : (done : List ℕ) (words rest : List (List ℕ)) (n : ℕ) → number_at Hexadecimal words ≡ Some (n, rest)
    → with_done (done ++ n ∷ []) (numbers_at rest) ≡ with_done done (numbers_at words)
unfolding number_at numbers_at
number_read done [] rest n is = absurd (cc)
number_read done (w ∷ words) rest n is =
    elim (read_word Hexadecimal w)
    as (λ (o : Option ℕ). elim o as (λ _. Option (ℕ × List (List ℕ))) [ None ↦ None | Some m ↦ Some (m, words) ]
    ≡ Some (n, rest)
    → with_done (done ++ n ∷ []) (numbers_at rest) ≡ with_done done (or_number w words o)) [
      | None ↦ λ (wrong : _). absurd (cc)
      | Some m ↦ λ (same : _).
          let pair : (m, words) ≡ (n, rest) = cc in
          ap (λ (l : List ℕ). with_done [] (l, (numbers_at rest).1)) (append_assoc done (n ∷ []) (numbers_at rest).0)
          ∙ sym (ap (λ (q : ℕ × List (List ℕ)). with_done done (q.0 ∷ (numbers_at q.1).0, (numbers_at q.1).1)) pair)
    ] is

pub numbers_stop : (words : List (List ℕ)) → number_at Hexadecimal words ≡ None → numbers_at words ≡ ([], words)
unfolding number_at numbers_at
numbers_stop [] is = refl
numbers_stop (w ∷ words) is =
    elim (read_word Hexadecimal w)
    as (λ (o : Option ℕ). elim o as (λ _. Option (ℕ × List (List ℕ))) [ None ↦ None | Some m ↦ Some (m, words) ]
    ≡ None
    → elim o as (λ _. List ℕ × List (List ℕ))
    [ None ↦ ([], w ∷ words) | Some m ↦ (m ∷ (numbers_at words).0, (numbers_at words).1) ] ≡ ([], w ∷ words)) [
      | None ↦ λ (_ : _). refl
      | Some m ↦ λ (wrong : _). absurd (cc)
    ] is

pub numbers_done : (done : List ℕ) (words : List (List ℕ)) (all : List ℕ × List (List ℕ))
    → number_at Hexadecimal words ≡ None
    → (done ++ (numbers_at words).0, (numbers_at words).1) ≡ all → all ≡ (done, words)
numbers_done done words all none is =
    sym is ∙ ap (λ (p : List ℕ × List (List ℕ)). (done ++ p.0, p.1)) (numbers_stop words none) ∙ ap
    (λ (l : List ℕ). (l, words)) (append-nil done)

-- one more item is read
more_bytes : (done item : List ℕ) (read : Reading (List ℕ × List (List ℕ)))
    → after_bytes (done ++ item) read ≡ after_bytes done (after_bytes item read)
more_bytes done item (Err place) = refl
more_bytes done item (Ok b) = ap (λ (l : List ℕ). Ok (l, b.1)) (append_assoc done item b.0)

one_more : (n : ℕ) (words rest : List (List ℕ)) → label_at (codes "item") words ≡ Some rest → parts_at (suc n) words
    ≡ (item_at rest >>= λ i. after_bytes i.0 (parts_at n i.1))
unfolding parts_at
one_more n words rest is = rw (is, parts_at) refl

pub item_read : (done item : List ℕ) (left : ℕ) (words rest more : List (List ℕ)) → label_at (codes "item") words
    ≡ Some rest → item_at rest ≡ Ok (item, more) → 0 < left
    → after_bytes (done ++ item) (parts_at (left - 1) more) ≡ after_bytes done (parts_at left words)
item_read done item zero words rest more label read some = absurd (omega arith)
item_read done item (suc n) words rest more label read some =
    let e : suc n - 1 ≡ n = omega arith in
    ap (λ (k : ℕ). after_bytes (done ++ item) (parts_at k more)) e ∙ more_bytes done item (parts_at n more)
    ∙ sym (ap (after_bytes done) (one_more n words rest label ∙ ap
    (λ (r : Reading (List ℕ × List (List ℕ))). r >>= λ i. after_bytes i.0 (parts_at n i.1)) read))

pub item_fault : (f : Fault) (done : List ℕ) (left : ℕ) (words rest : List (List ℕ))
    (all : Reading (List ℕ × List (List ℕ))) → label_at (codes "item") words ≡ Some rest → Fails f (item_at rest)
    → 0 < left
    → after_bytes done (parts_at left words) ≡ all → Fails f all
item_fault fault.NoMemory done left words rest all label fails some is = tt
item_fault (fault.Unreadable place) done zero words rest all label fails some is = absurd (omega arith)
item_fault (fault.Unreadable place) done (suc n) words rest all label fails some is =
    sym is ∙ ap (after_bytes done)
    (one_more n words rest label ∙ ap
    (λ (r : Reading (List ℕ × List (List ℕ))). r >>= λ i. after_bytes i.0 (parts_at n i.1)) fails)

pub no_item_read : (left : ℕ) (words : List (List ℕ)) → label_at (codes "item") words ≡ None → parts_at left words
    ≡ optional_bytes_at (codes "data") words
unfolding parts_at
no_item_read zero words none = refl
no_item_read (suc n) words none = rw (none, parts_at) refl

pub none_to_read : (left : ℕ) (words : List (List ℕ)) → left ≡ 0 → parts_at left words
    ≡ optional_bytes_at (codes "data") words
unfolding parts_at
none_to_read left words none = rw none refl

pub all_read : (body : List ℕ) (n : ℕ) (words : List (List ℕ)) → body ≡ [] → n ≡ length words
    → after_bytes body (parts_at n words) ≡ body_at words
unfolding body_at
all_read body n words none count =
    ap (λ (l : List ℕ). after_bytes l (parts_at n words)) none ∙ ap (λ (k : ℕ). after_bytes [] (parts_at k words)) count
    ∙ elim (parts_at (length words) words) as (λ (r : Reading (List ℕ × List (List ℕ))). after_bytes [] r ≡ r)
    [ Ok b ↦ refl | Err place ↦ refl ]
