-- Bodies printed item by item.
use Rattle.std.proofs.Common.{◌≡◌, ℕ, zero, suc, ◌-◌, ◌<◌, List, ◌++◌, length, refl, sym, ap, ◌∙◌, arith, Option, Some, None, Ok, Err}
use Rattle.std.specs.Prelude.{codes, OnOk, Result, ⊤}
use Rattle.script.specs.vocabulary.Spaced.{spaced}
use Rattle.script.proofs.vocabulary.WordsOf.{spaced_more}
use Rattle.script.specs.printing.Bytes.{optional_bytes}
use Rattle.script.specs.printing.Items.{item_front, body_within, body_words, AddsItem}

-- one more item is printed
pub item_pushed : (old line body beyond : List ℕ) (left : ℕ) (words : List (List ℕ))
    → item_front body ≡ Some (words, beyond) → 0 < left → line ≡ old ++ spaced words
    → line ++ spaced (body_within (left - 1) beyond) ≡ old ++ spaced (body_within left body)
unfolding body_within
item_pushed old line body beyond zero words is some pushed = absurd (omega arith)
item_pushed old line body beyond (suc n) words is some pushed =
    let e : suc n - 1 ≡ n = omega arith in
    ap (λ (k : ℕ). line ++ spaced (body_within k beyond)) e
    ∙ ap (λ (l : List ℕ). l ++ spaced (body_within n beyond)) pushed
    ∙ spaced_more old words (body_within n beyond)
    ∙ ap (λ (front : Option (List (List ℕ) × List ℕ)). old
    ++ spaced (elim front as (λ _. List (List ℕ)) [
      | None ↦ optional_bytes (codes "data") body
      | Some i ↦ i.0
          ++ body_within n i.1
    ])) (sym is)

pub no_item_left : (body : List ℕ) (left : ℕ) → item_front body ≡ None → body_within left body
    ≡ optional_bytes (codes "data") body
unfolding body_within
no_item_left body zero none = refl
no_item_left body (suc n) none = rw (none, body_within) refl

pub none_left : (body : List ℕ) (left : ℕ) → left ≡ 0 → body_within left body ≡ optional_bytes (codes "data") body
unfolding body_within
none_left body left none = rw none refl

pub rest_pushed : {E : Type 0} (r : Result ⊤ E) (old line new : List ℕ) (words rest all : List (List ℕ)) → words ≡ rest
    → line ++ spaced words ≡ old ++ spaced all
    → OnOk r (new ≡ line ++ spaced rest) → OnOk r (new ≡ old ++ spaced all)
rest_pushed (Ok done) old line new words rest all is same pushed =
    pushed ∙ sym (ap (λ (l : List (List ℕ)). line ++ spaced l) is) ∙ same
rest_pushed (Err e) old line new words rest all is same pushed = tt

-- the words that were appended for an item
pub added_some : (old new beyond : List ℕ) (front : Option (List (List ℕ) × List ℕ))
    → AddsItem old new (Some beyond) front
    → (words : List (List ℕ)) × (front ≡ Some (words, beyond)) × (new ≡ old ++ spaced words)
added_some old new beyond (Some i) added = (i.0, ap (λ (b : List ℕ). Some (i.0, b)) (sym added.1), added.0)
added_some old new beyond None added = absurd added

pub added_none : (old new : List ℕ) (front : Option (List (List ℕ) × List ℕ)) → AddsItem old new None front
    → (front ≡ None) × (new ≡ old)
added_none old new None added = (refl, added)
added_none old new (Some i) added = absurd added

pub all_pushed : (line body : List ℕ)
    → line ++ spaced (body_within (length body) body) ≡ line ++ spaced (body_words body)
unfolding body_words
all_pushed line body = refl
