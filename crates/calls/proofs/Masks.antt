-- The canonical message, as its masks are applied one by one.
use Rattle.std.proofs.Common.{◌≡◌, ℕ, zero, suc, ◌+◌, ◌<◌, ◌≤◌, min, List, [], ◌∷◌, length, take, drop, get_or, set, slice_index, bit_and, refl, ap, ◌∙◌, arith}
use Rattle.ipc_model.specs.messages.Kept.{masked}

-- one more mask is applied
masked_more : (masks bytes : List ℕ) (i v : ℕ) → i < length masks → i < length bytes
    → set (masked (take i masks) bytes) i (bit_and (get_or (masked (take i masks) bytes) i v) (get_or masks i 0))
    ≡ masked (take (suc i) masks) bytes
masked_more [] bytes i v less within = absurd (omega arith)
masked_more (m ∷ masks) [] i v less within = absurd (omega arith)
masked_more (m ∷ masks) (b ∷ bytes) zero v less within = refl
masked_more (m ∷ masks) (b ∷ bytes) (suc i) v less within =
    ap (λ (l : List ℕ). bit_and b m ∷ l) (masked_more masks bytes i v (omega arith) (omega arith))

-- one more mask is applied to a list whose first i masks were applied
pub kept_more : (masks bytes kept : List ℕ) (i v : ℕ) → kept ≡ masked (take i masks) bytes → i < length masks
    → i < length bytes
    → set kept i (bit_and (get_or kept i v) (get_or masks i 0)) ≡ masked (take (i + 1) masks) bytes
kept_more masks bytes kept i v so_far less within =
    let next : suc i ≡ i + 1 = omega arith in
    ap (λ (l : List ℕ). set l i (bit_and (get_or l i v) (get_or masks i 0))) so_far
    ∙ masked_more masks bytes i v less within
    ∙ ap (λ (n : ℕ). masked (take n masks) bytes) next

-- all masks are applied once there are no more masks or no more bytes
pub masked_all : (masks bytes : List ℕ) (n : ℕ) → min (length bytes) (length masks) ≤ n
    → masked (take n masks) bytes ≡ masked masks bytes
masked_all [] bytes zero enough = refl
masked_all [] bytes (suc n) enough = refl
masked_all (m ∷ masks) [] zero enough = refl
masked_all (m ∷ masks) [] (suc n) enough = refl
masked_all (m ∷ masks) (b ∷ bytes) zero enough = absurd (omega arith)
masked_all (m ∷ masks) (b ∷ bytes) (suc n) enough =
    ap (λ (l : List ℕ). bit_and b m ∷ l) (masked_all masks bytes n (omega arith))

pub at_drop : (k : ℕ) (bytes : List ℕ) (i : ℕ) → slice_index (drop k bytes) i ≡ slice_index bytes (k + i)
at_drop zero bytes i = let same : i ≡ 0 + i = omega arith in ap (λ (n : ℕ). slice_index bytes n) same
at_drop (suc k) [] i = refl
at_drop (suc k) (b ∷ bytes) i =
    let same : suc (k + i) ≡ suc k + i = omega arith in at_drop k bytes i ∙ ap
    (λ (n : ℕ). slice_index (b ∷ bytes) n) same
