-- A body is filled one item at a time.
use Rattle.std.specs.Prelude.{◌≡◌, ℕ, Bool, true, false, ◌==◌, List, [], ◌∷◌, ◌++◌, length, drop, take, flat_map, None, Some, Result, Ok, Err, if◌then◌else◌, refl}
use Rattle.std.proofs.Common.{sym, ◌∙◌, ap, append_assoc, append-nil}
use Rattle.std.proofs.lemmas.Bool.{eqb-true}
use Rattle.codes.specs.declared.kern_return.KernReturn.{KernReturn}
use Rattle.ipc_model.specs.calls.Tests.{first_failing, and_then}
use Rattle.ipc_model.specs.messages.Items.{Item, items_of, items_encoding, item_encoding, filled, body_filled, is_port_item, tests_of_item}
use Rattle.type_desc.specs.Reading.{front_item, following_item, one_item, no_item, items_of_none, some_left, none_is}
use Rattle.type_desc.specs.Values.{filled_item, names_after}
use Rattle.words.specs.Words.{word}

-- Items are filled one by one. Each takes its names from the front of the remaining ones.
abbrev pub FilledOneByOne : Type 0
FilledOneByOne =
    (item : Item) (items : List Item) (names : List ℕ)
    → filled (item ∷ items) names ≡ filled_item item names ∷ filled items (names_after item names)

pub filled_front : FilledOneByOne
filled_front item items names =
    elim (is_port_item item) as (λ (b : Bool).
    (if b then record item { content = flat_map word (take item.number names) } ∷ filled items
    (drop item.number names) else item ∷ filled items names)
    ≡ (if b then record item { content = flat_map word (take item.number names) } else item) ∷ filled items
    (if b then drop item.number names else names)) [ true ↦ refl | false ↦ refl ]

-- bytes followed by the encoding of the filled items, if the items are known
abbrev pub with_filled : List ℕ → Result (List Item) KernReturn → List ℕ → Result (List ℕ) KernReturn
with_filled encoding items names = and_then items (λ items. Ok (encoding ++ items_encoding (filled items names)))

filled_more : (encoding : List ℕ) (item : Item) (rest : Result (List Item) KernReturn) (names : List ℕ)
    → with_filled encoding (and_then rest (λ items. Ok (item ∷ items))) names
    ≡ with_filled (encoding ++ item_encoding (filled_item item names)) rest (names_after item names)
filled_more encoding item (Ok items) names =
    ap (λ (l : List Item). Ok (encoding ++ items_encoding l)) (filled_front item items names)
    ∙ ap Ok (sym (append_assoc encoding (item_encoding (filled_item item names))
    (items_encoding (filled items (names_after item names)))))
filled_more encoding item (Err code) names = refl

-- One step: the first remaining item is filled and appended.
pub one_filled : (all : Result (List ℕ) KernReturn) (bytes rest encoding added : List ℕ) (names left : List ℕ)
    (item : Item) → all ≡ with_filled encoding (items_of bytes) names → (length bytes == 0) ≡ false
    → first_failing (tests_of_item bytes) ≡ None
    → item ≡ front_item bytes → rest ≡ following_item bytes → added ≡ encoding ++ item_encoding (filled_item item names)
    → left ≡ names_after item names → all ≡ with_filled added (items_of rest) left
one_filled all bytes rest encoding added names left item before some passes is beyond adds leaves =
    before ∙ ap (λ (r : Result (List Item) KernReturn). with_filled encoding r names)
    (one_item bytes (some_left bytes some) passes)
    ∙ filled_more encoding (front_item bytes) (items_of (following_item bytes)) names
    ∙ (λ i. with_filled (encoding ++ item_encoding (filled_item (sym is i) names)) (items_of (sym beyond i))
    (names_after (sym is i) names))
    ∙ (λ i. with_filled (sym adds i) (items_of rest) (sym leaves i))

bytes_in : Result (List ℕ) KernReturn → List ℕ
bytes_in (Ok bytes) = bytes
bytes_in (Err code) = []

same_bytes : (one other : List ℕ) → ◌≡◌ {A = Result (List ℕ) KernReturn} (Ok one) (Ok other) → one ≡ other
unfolding bytes_in
same_bytes one other e = ap bytes_in e

-- the appended bytes, if the items tile the body
added_is : (items : Result (List Item) KernReturn) (body encoding names added : List ℕ)
    → with_filled encoding items names ≡ Ok added → added ≡ encoding ++ body_filled items body names
added_is (Ok items) body encoding names added is =
    sym (same_bytes (encoding ++ items_encoding (filled items names)) added is)
added_is (Err code) body encoding names added is = absurd (cc is)

-- Last step: no bytes remain.
pub all_filled : (body bytes encoding added : List ℕ) (names left : List ℕ)
    → with_filled encoding (items_of body) names ≡ with_filled added (items_of bytes) left → (length bytes == 0) ≡ true
    → added ≡ encoding ++ body_filled (items_of body) body names
all_filled body bytes encoding added names left before none =
    added_is (items_of body) body encoding names added
    (before ∙ ap (λ (l : List ℕ). with_filled added (items_of l) left) (none_is bytes (eqb-true (length bytes) 0 none))
    ∙ ap (λ (r : Result (List Item) KernReturn). with_filled added r left) items_of_none ∙ ap Ok (append-nil added))

faulty_is : (items : Result (List Item) KernReturn) (body encoding names : List ℕ) (code : KernReturn)
    → with_filled encoding items names ≡ Err code → body_filled items body names ≡ body
faulty_is (Ok items) body encoding names code is = absurd (cc is)
faulty_is (Err other) body encoding names code is = refl

-- Fault: the remaining bytes don't begin with an item.
pub one_unfilled : (body bytes encoding added : List ℕ) (names left : List ℕ) (code : KernReturn)
    → with_filled encoding (items_of body) names ≡ with_filled added (items_of bytes) left → (length bytes == 0) ≡ false
    → first_failing (tests_of_item bytes) ≡ Some code
    → body_filled (items_of body) body names ≡ body
one_unfilled body bytes encoding added names left code before some fails =
    faulty_is (items_of body) body encoding names code
    (before ∙ ap (λ (r : Result (List Item) KernReturn). with_filled added r left)
    (no_item bytes code (some_left bytes some) fails))
