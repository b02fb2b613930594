-- Lists that grow at their end, and tickets by number.
use Rattle.std.proofs.Common.{◌≡◌, ◌≢◌, ℕ, zero, suc, ◌+◌, ◌-◌, ◌≤◌, Bool, true, false, List, [], ◌∷◌, ◌++◌, length, take, drop, Option, None, Some, refl, sym, ap, subst, ◌∙◌, arith}
use Rattle.std.specs.Prelude.{max, slice_get, if◌then◌else◌}
use Rattle.ipc_model.specs.world.World.{Ticket, greatest_seen, with_answered}

module _ {A : Type 0} where
  pub take_more : (k : ℕ) (xs ys : List A) → k ≤ length xs → take k (xs ++ ys) ≡ take k xs
  take_more zero xs ys le = refl
  take_more (suc k) [] ys le = absurd (omega arith)
  take_more (suc k) (x ∷ xs) ys le = ap (λ (l : List A). x ∷ l) (take_more k xs ys (omega arith))

  pub drop_more : (k : ℕ) (xs ys : List A) → k ≤ length xs → drop k (xs ++ ys) ≡ drop k xs ++ ys
  drop_more zero xs ys le = refl
  drop_more (suc k) [] ys le = absurd (omega arith)
  drop_more (suc k) (x ∷ xs) ys le = drop_more k xs ys (omega arith)

  pub take_sum : (m n : ℕ) (xs : List A) → m ≤ length xs → take (m + n) xs ≡ take m xs ++ take n (drop m xs)
  take_sum zero n xs le = ap (λ (k : ℕ). take k xs) (omega arith)
  take_sum (suc m) n [] le = absurd (omega arith)
  take_sum (suc m) n (x ∷ xs) le =
      let k : suc m + n ≡ suc (m + n) = omega arith in
      ap (λ (k : ℕ). take k (x ∷ xs)) k ∙ ap (λ (l : List A). x ∷ l) (take_sum m n xs (omega arith))

  pub drop_sum : (m n : ℕ) (xs : List A) → m ≤ length xs → drop (m + n) xs ≡ drop n (drop m xs)
  drop_sum zero n xs le = ap (λ (k : ℕ). drop k xs) (omega arith)
  drop_sum (suc m) n [] le = absurd (omega arith)
  drop_sum (suc m) n (x ∷ xs) le =
      let k : suc m + n ≡ suc (m + n) = omega arith in
      ap (λ (k : ℕ). drop k (x ∷ xs)) k ∙ drop_sum m n xs (omega arith)

  pub drop_long : (k : ℕ) (xs : List A) → length (drop k xs) ≡ length xs - k
  drop_long zero xs = omega arith
  drop_long (suc k) [] = omega arith
  drop_long (suc k) (x ∷ xs) = drop_long k xs ∙ omega arith

  pub drop_end : (xs : List A) → drop (length xs) xs ≡ []
  drop_end [] = refl
  drop_end (x ∷ xs) = drop_end xs

  pub take_end : (xs : List A) → take (length xs) xs ≡ xs
  take_end [] = refl
  take_end (x ∷ xs) = ap (λ (l : List A). x ∷ l) (take_end xs)

  pub take_long : (k : ℕ) (xs : List A) → k ≤ length xs → length (take k xs) ≡ k
  take_long zero xs le = refl
  take_long (suc k) [] le = absurd (omega arith)
  take_long (suc k) (x ∷ xs) le = ap suc (take_long k xs (omega arith))

  -- the element after all others, and those before it
  pub got_last : (xs : List A) (x : A) → slice_get (xs ++ x ∷ []) (length xs) ≡ Some x
  got_last [] x = refl
  got_last (y ∷ xs) x = got_last xs x

  pub got_other : (xs : List A) (x : A) (n : ℕ) → n ≢ length xs → slice_get (xs ++ x ∷ []) n ≡ slice_get xs n
  got_other [] x zero apart = absurd (apart refl)
  got_other [] x (suc n) apart = refl
  got_other (y ∷ xs) x zero apart = refl
  got_other (y ∷ xs) x (suc n) apart = got_other xs x n (λ (e : n ≡ length xs). apart (ap suc e))

-- a ticket that is answered, and the others

pub answered_here : (tickets : List Ticket) (n : ℕ) (ticket : Ticket) → slice_get tickets n ≡ Some ticket
    → slice_get (with_answered tickets n) n ≡ Some (record ticket { answered = true })
answered_here [] n ticket there = absurd (cc there)
answered_here (first ∷ tickets) zero ticket there = ap (λ (o : Option Ticket). mark o) there
  where
    mark : Option Ticket → Option Ticket
    mark None = None
    mark (Some t) = Some (record t { answered = true })
answered_here (first ∷ tickets) (suc n) ticket there = answered_here tickets n ticket there

pub answered_other : (tickets : List Ticket) (n k : ℕ) → k ≢ n
    → slice_get (with_answered tickets n) k ≡ slice_get tickets k
answered_other [] n k apart = refl
answered_other (first ∷ tickets) zero zero apart = absurd (apart refl)
answered_other (first ∷ tickets) zero (suc k) apart = refl
answered_other (first ∷ tickets) (suc n) zero apart = refl
answered_other (first ∷ tickets) (suc n) (suc k) apart = answered_other tickets n k (λ (e : k ≡ n). apart (ap suc e))

pub answered_long : (tickets : List Ticket) (n : ℕ) → length (with_answered tickets n) ≡ length tickets
answered_long [] n = refl
answered_long (first ∷ tickets) zero = refl
answered_long (first ∷ tickets) (suc n) = ap suc (answered_long tickets n)

seen_up : (b : Bool) (seen rest n : ℕ) → (if b then max seen rest else rest) ≤ n → rest ≤ n
seen_up true seen rest n le = omega arith
seen_up false seen rest n le = le

seen_on : (b : Bool) (seen rest other n : ℕ) → (if b then max seen rest else rest) ≤ n → other ≤ n
    → (if b then max seen other else other) ≤ n
seen_on true seen rest other n le less = omega arith
seen_on false seen rest other n le less = less

pub seen_given : (tickets : List Ticket) (ticket : Ticket) (n : ℕ) → ticket.answered ≡ false → greatest_seen tickets ≤ n
    → greatest_seen (tickets ++ ticket ∷ []) ≤ n
seen_given [] ticket n fresh le =
    subst (λ (b : Bool). (if b then max ticket.seen 0 else 0) ≤ n) (sym fresh) (omega arith)
seen_given (first ∷ tickets) ticket n fresh le =
    let rest = seen_up first.answered first.seen (greatest_seen tickets) n le in
    seen_on first.answered first.seen (greatest_seen tickets) (greatest_seen (tickets ++ ticket ∷ [])) n le
    (seen_given tickets ticket n fresh rest)

pub seen_answered : (tickets : List Ticket) (k : ℕ) (ticket : Ticket) (n : ℕ) → slice_get tickets k ≡ Some ticket
    → ticket.seen ≤ n → greatest_seen tickets ≤ n → greatest_seen (with_answered tickets k) ≤ n
seen_answered [] k ticket n there less le = le
seen_answered (first ∷ tickets) zero ticket n there less le =
    let same : first ≡ ticket = cc there in
    let here : first.seen ≤ n = subst (λ (t : Ticket). t.seen ≤ n) (sym same) less in
    let rest = seen_up first.answered first.seen (greatest_seen tickets) n le in
    omega arith
seen_answered (first ∷ tickets) (suc k) ticket n there less le =
    let rest = seen_up first.answered first.seen (greatest_seen tickets) n le in
    seen_on first.answered first.seen (greatest_seen tickets) (greatest_seen (with_answered tickets k)) n le
    (seen_answered tickets k ticket n there less rest)
