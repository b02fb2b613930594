-- The words of a command line, if they are as many as a program takes.
use Rattle.std.proofs.Common.{◌≡◌, ℕ, ◌≤◌, ◌<◌, List, [], ◌∷◌, length, map, get_or, Option, Some, Bor, sym, ap, ◌∙◌, arith}
use Rattle.std.specs.Prelude.{option_map}

one_item : {S : Type 0} (bytes : S → List ℕ) (items : List S) (first : S) → 1 ≤ length items → length items < 2
    → first ≡ get_or items 0 first → map bytes items ≡ bytes first ∷ []
one_item bytes [] first least below is = absurd (omega (arith, least))
one_item bytes (x ∷ []) first least below is = ap (λ s. bytes s ∷ []) (sym is)
one_item bytes (x ∷ y ∷ rest) first least below is = absurd (omega (arith, below))

two_items : {S : Type 0} (bytes : S → List ℕ) (items : List S) (first second : S) → 2 ≤ length items
    → length items < 3 → first ≡ get_or items 0 first → second ≡ get_or items 1 second
    → map bytes items ≡ bytes first ∷ bytes second ∷ []
two_items bytes [] first second least below is then = absurd (omega (arith, least))
two_items bytes (x ∷ []) first second least below is then = absurd (omega (arith, least))
two_items bytes (x ∷ y ∷ []) first second least below is then =
    ap (λ s. bytes s ∷ bytes y ∷ []) (sym is) ∙ ap (λ s. bytes first ∷ bytes s ∷ []) (sym then)
two_items bytes (x ∷ y ∷ z ∷ rest) first second least below is then = absurd (omega (arith, below))

pub one_word : {S : Type 0} (bytes : S → List ℕ) (words : Option (Bor (List S))) (given : Bor (List S)) (first : S)
    (path : List ℕ) → words ≡ Some given → 1 ≤ length given.now → length given.now < 2
    → first ≡ get_or given.now 0 first → path ≡ bytes first
    → option_map (λ texts. map bytes texts.now) words ≡ Some (path ∷ [])
one_word bytes words given first path are least below is same =
    ap (λ o. option_map (λ texts. map bytes texts.now) o) are
    ∙ ap Some (one_item bytes given.now first least below is ∙ ap (λ p. p ∷ []) (sym same))

pub two_words : {S : Type 0} (bytes : S → List ℕ) (words : Option (Bor (List S))) (given : Bor (List S))
    (first second : S) (path other : List ℕ) → words ≡ Some given → 2 ≤ length given.now → length given.now < 3
    → first ≡ get_or given.now 0 first → second ≡ get_or given.now 1 second → path ≡ bytes first → other ≡ bytes second
    → option_map (λ texts. map bytes texts.now) words ≡ Some (path ∷ other ∷ [])
two_words bytes words given first second path other are least below is then same also =
    ap (λ o. option_map (λ texts. map bytes texts.now) o) are
    ∙ ap Some (two_items bytes given.now first second least below is then
    ∙ ap (λ p. p ∷ bytes second ∷ []) (sym same) ∙ ap (λ p. path ∷ p ∷ []) (sym also))
