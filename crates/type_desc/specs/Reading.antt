-- A body is read one item at a time.
use Rattle.std.specs.Prelude.{◌≡◌, ℕ, zero, suc, ◌+◌, ◌<◌, ◌≤◌, Bool, true, false, ◌==◌, List, [], ◌∷◌, ◌++◌, length, None, Some, Result, Ok, Err, if◌then◌else◌, refl}
use Rattle.std.proofs.Common.{sym, ◌∙◌, ap, arith, append_assoc, append-nil, length-drop}
use Rattle.std.proofs.lemmas.Bool.{eqb-true}
use Rattle.byteorder.specs.Endian.{little_number}
use Rattle.codes.specs.declared.kern_return.KernReturn.{KernReturn}
use Rattle.ipc_model.specs.messages.Items.{Item, items_of, items_within, item_of, after_item, is_long_form, tests_of_item, descriptor_length, data_length}
use Rattle.ipc_model.specs.calls.Tests.{Tests, first_failing, and_then, unless_failing}

-- true if the descriptor at the front is long
abbrev pub form_of : List ℕ → Bool
form_of bytes = is_long_form (little_number 4 bytes)

-- the item at the front, and the bytes after it
abbrev pub front_item : List ℕ → Item
front_item bytes = item_of bytes (form_of bytes)

abbrev pub following_item : List ℕ → List ℕ
following_item bytes = after_item bytes (form_of bytes)

-- the items read so far, followed by those of the rest
abbrev pub with_front : List Item → Result (List Item) KernReturn → Result (List Item) KernReturn
with_front front rest = and_then rest (λ items. Ok (front ++ items))

at_least_four : (b : Bool) → 4 ≤ descriptor_length b
at_least_four true = omega arith
at_least_four false = omega arith

-- a bound above the number of bytes finds the same items
same_within : (m n : ℕ) (bytes : List ℕ) → length bytes ≤ m → length bytes ≤ n
    → items_within m bytes ≡ items_within n bytes
same_within zero zero bytes few less = refl
same_within zero (suc n) [] few less = refl
same_within (suc m) zero [] few less = refl
same_within (suc m) (suc n) [] few less = refl
same_within zero n (b ∷ bytes) few less = absurd (omega (arith, few))
same_within m zero (b ∷ bytes) few less = absurd (omega (arith, less))
same_within (suc m) (suc n) (b ∷ bytes) few less =
    let encoding : List ℕ = b ∷ bytes in
    let long : Bool = form_of encoding in
    let shorter : length (after_item encoding long) < length encoding =
    omega (
      arith,
      few,
      length-drop (descriptor_length long + data_length encoding long) encoding,
      at_least_four long,
    ) in
    ap (λ (r : Result (List Item) KernReturn). unless_failing (tests_of_item encoding)
    (and_then r (λ items. Ok (item_of encoding long ∷ items))))
    (same_within m n (after_item encoding long) (omega (arith, few, shorter)) (omega (arith, less, shorter)))

passes_on : {X : Type 0} (tests : Tests) (r : Result X KernReturn) → first_failing tests ≡ None
    → unless_failing tests r ≡ r
passes_on [] r passes = refl
passes_on (test ∷ tests) r passes =
    elim test.0 as (λ (b : Bool). (if b then Some test.1 else first_failing tests) ≡ None
    → (if b then Err test.1 else unless_failing tests r) ≡ r) [
      | true ↦ λ (e : _). absurd (cc e)
      | false ↦ λ (e : _). passes_on tests r e
    ] passes

stops : {X : Type 0} (tests : Tests) (r : Result X KernReturn) (code : KernReturn) → first_failing tests ≡ Some code
    → unless_failing tests r ≡ Err code
stops [] r code fails = absurd (cc fails)
stops {X} (test ∷ tests) r code fails =
    elim test.0 as (λ (b : Bool). (if b then Some test.1 else first_failing tests) ≡ Some code
    → ◌≡◌ {A = Result X KernReturn} (if b then Err test.1 else unless_failing tests r) (Err code)) [
      | true ↦ λ (e : _). cc e
      | false ↦ λ (e : _). stops tests r code e
    ] fails

-- If the item at the front passes its tests, the items are that item and those of the bytes after it.
pub one_item : (bytes : List ℕ) → 0 < length bytes → first_failing (tests_of_item bytes) ≡ None
    → items_of bytes ≡ and_then (items_of (following_item bytes)) (λ items. Ok (front_item bytes ∷ items))
unfolding items_of
one_item [] some passes = absurd (omega (arith, some))
one_item (b ∷ bytes) some passes =
    let encoding : List ℕ = b ∷ bytes in
    let beyond : List ℕ = following_item encoding in
    let shorter : length beyond < length encoding =
    omega (
      arith,
      length-drop (descriptor_length (form_of encoding) + data_length encoding (form_of encoding))
          encoding,
      at_least_four (form_of encoding),
    ) in
    passes_on (tests_of_item encoding)
    (and_then (items_within (length bytes) beyond) (λ items. Ok (front_item encoding ∷ items))) passes
    ∙ ap (λ (r : Result (List Item) KernReturn). and_then r (λ items. Ok (front_item encoding ∷ items)))
    (same_within (length bytes) (length beyond) beyond (omega (arith, shorter)) (omega arith))

-- If the item at the front fails a test, the result is that test's code.
pub no_item : (bytes : List ℕ) (code : KernReturn) → 0 < length bytes → first_failing (tests_of_item bytes) ≡ Some code
    → items_of bytes ≡ Err code
unfolding items_of
no_item [] code some fails = absurd (omega (arith, some))
no_item (b ∷ bytes) code some fails =
    let encoding : List ℕ = b ∷ bytes in
    stops (tests_of_item encoding)
    (and_then (items_within (length bytes) (following_item encoding)) (λ items. Ok (front_item encoding ∷ items)))
    code fails

pub items_of_none : items_of [] ≡ Ok []
unfolding items_of
items_of_none = refl

-- an item moves from the rest to the items read so far
pub front_more : (front : List Item) (item : Item) (rest : Result (List Item) KernReturn)
    → with_front front (and_then rest (λ items. Ok (item ∷ items))) ≡ with_front (front ++ item ∷ []) rest
front_more front item (Ok items) = ap Ok (sym (append_assoc front (item ∷ []) items))
front_more front item (Err code) = refl

pub none_is : (bytes : List ℕ) → length bytes ≡ 0 → bytes ≡ []
none_is [] is = refl
none_is (b ∷ bytes) is = absurd (omega (arith, is))

pub some_left : (bytes : List ℕ) → (length bytes == 0) ≡ false → 0 < length bytes
some_left [] is = absurd (cc is)
some_left (b ∷ bytes) is = omega arith

-- One step: the first remaining item is read.
pub one_more : (body bytes rest : List ℕ) (front : List Item) (item : Item)
    → items_of body ≡ with_front front (items_of bytes) → (length bytes == 0) ≡ false
    → first_failing (tests_of_item bytes) ≡ None
    → item ≡ front_item bytes → rest ≡ following_item bytes
    → items_of body ≡ with_front (front ++ item ∷ []) (items_of rest)
one_more body bytes rest front item before left passes is beyond =
    before ∙ ap (with_front front) (one_item bytes (some_left bytes left) passes)
    ∙ front_more front (front_item bytes) (items_of (following_item bytes)) ∙
    (λ i. with_front (front ++ sym is i ∷ []) (items_of (sym beyond i)))

-- Last step: no bytes remain.
pub all_read : (body bytes : List ℕ) (front : List Item) → items_of body ≡ with_front front (items_of bytes)
    → (length bytes == 0) ≡ true → items_of body ≡ Ok front
all_read body bytes front before left =
    before ∙ ap (λ (l : List ℕ). with_front front (items_of l)) (none_is bytes (eqb-true (length bytes) 0 left))
    ∙ ap (with_front front) items_of_none ∙ ap Ok (append-nil front)

-- Fault: the remaining bytes don't begin with an item.
pub one_fault : (body bytes : List ℕ) (front : List Item) (code : KernReturn)
    → items_of body ≡ with_front front (items_of bytes) → (length bytes == 0) ≡ false
    → first_failing (tests_of_item bytes) ≡ Some code → items_of body ≡ Err code
one_fault body bytes front code before left fails =
    before ∙ ap (with_front front) (no_item bytes code (some_left bytes left) fails)
