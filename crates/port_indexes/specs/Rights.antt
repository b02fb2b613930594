-- Rights counted by kind and port: send and send-once rights.
use Rattle.std.proofs.Common.{◌≡◌, ℕ, ◌+◌, ◌-◌, ◌^◌, ◌<◌, ◌==◌, Bool, true, false, cond, ◌&&◌, refl, sym, ◌∙◌, ap, arith}
use Rattle.std.proofs.lemmas.Bool.{eqb-true, eq-eqb}
use Rattle.ipc_laws.specs.Weights.{Weight}
use Rattle.ipc_model.specs.declared.message.RightKind.{RightKind}
use Rattle.ipc_model.specs.declared.message.RightKind.TheVariants as kind
use Rattle.ipc_model.specs.state.Placed.{same_kind}
use Rattle.port_indexes.specs.Counts.{Counts, count_at, count_with, with_count}

-- 1 for a right of this kind to this port, else 0
abbrev pub right_weight : RightKind → ℕ → Weight
right_weight wanted serial what port = cond (same_kind what wanted && port == serial) 1 0

-- the counts after the count of a pair is incremented, and decremented
abbrev pub one_more : Counts → ℕ → ℕ → Counts
one_more counts first second = with_count counts first second (count_at counts first second + 1)

abbrev pub one_fewer : Counts → ℕ → ℕ → Counts
one_fewer counts first second = with_count counts first second (count_at counts first second - 1)

-- the counts after a right is added, and subtracted; receive rights aren't counted
abbrev pub right_more : Counts → RightKind → ℕ → Counts
right_more counts kind.Send port = one_more counts 0 port
right_more counts kind.SendOnce port = one_more counts 1 port
right_more counts kind.Receive port = counts

abbrev pub right_fewer : Counts → RightKind → ℕ → Counts
right_fewer counts kind.Send port = one_fewer counts 0 port
right_fewer counts kind.SendOnce port = one_fewer counts 1 port
right_fewer counts kind.Receive port = counts

-- the counts of send and send-once rights are these sums of weights
pub record AreCounted (weighed : Weight → ℕ) (counts : Counts) : Type 0 where
  pub sends : (serial : ℕ) → serial < 2 ^ 64 → count_at counts 0 serial ≡ weighed (right_weight kind.Send serial)
  pub onces : (serial : ℕ) → serial < 2 ^ 64 → count_at counts 1 serial ≡ weighed (right_weight kind.SendOnce serial)

-- equal sums have the same counts
pub counted_same : (f g : Weight → ℕ) (counts : Counts) → ((w : Weight) → f w ≡ g w) → AreCounted f counts
    → AreCounted g counts
counted_same f g counts same are = record {
  sends = λ serial small. are.sends serial small ∙ same (right_weight kind.Send serial);
  onces = λ serial small. are.onces serial small ∙ same (right_weight kind.SendOnce serial);
}

pub turned : (a b : ℕ) → (a == b) ≡ (b == a)
turned a b = go (a == b) refl (b == a) refl
  where
    go : (x : Bool) → (a == b) ≡ x → (y : Bool) → (b == a) ≡ y → x ≡ y
    go true first true second = refl
    go false first false second = refl
    go true first false second = absurd (cc (sym second ∙ eq-eqb b a (sym (eqb-true a b first))))
    go false first true second = absurd (cc (sym first ∙ eq-eqb a b (sym (eqb-true b a second))))

-- the count of each pair after one is incremented, and decremented
pub count_more : (counts : Counts) (a b c d : ℕ) → b < 2 ^ 64 → d < 2 ^ 64
    → count_at (one_more counts a b) c d ≡ count_at counts c d + cond (c == a && b == d) 1 0
count_more counts a b c d small other =
    count_with counts a b (count_at counts a b + 1) c d small other ∙ go (c == a) refl (d == b) refl ∙ ap
    (λ (t : Bool). count_at counts c d + cond (c == a && t) 1 0) (turned d b)
  where
    go : (x : Bool) → (c == a) ≡ x → (y : Bool) → (d == b) ≡ y
        → cond (x && y) (count_at counts a b + 1) (count_at counts c d) ≡ count_at counts c d + cond (x && y) 1 0
    go true first true second =
        ap (λ (n : ℕ). n + 1) (sym (ap (λ (n : ℕ). count_at counts n d) (eqb-true c a first)
        ∙ ap (count_at counts a) (eqb-true d b second)))
    go true first false second = omega arith
    go false first y second = omega arith

pub count_fewer : (counts : Counts) (a b c d n : ℕ) → b < 2 ^ 64 → d < 2 ^ 64
    → count_at counts c d ≡ n + cond (c == a && b == d) 1 0 → count_at (one_fewer counts a b) c d ≡ n
count_fewer counts a b c d n small other is =
    count_with counts a b (count_at counts a b - 1) c d small other
    ∙ go (c == a) refl (d == b) refl (is ∙ ap (λ (t : Bool). n + cond (c == a && t) 1 0) (turned b d))
  where
    go : (x : Bool) → (c == a) ≡ x → (y : Bool) → (d == b) ≡ y → count_at counts c d ≡ n + cond (x && y) 1 0
        → cond (x && y) (count_at counts a b - 1) (count_at counts c d) ≡ n
    go true first true second was =
        omega (
          arith,
          was,
          ap (λ (n : ℕ). count_at counts n d) (eqb-true c a first)
              ∙ ap (count_at counts a) (eqb-true d b second),
        )
    go true first false second was = omega (arith, was)
    go false first y second was = omega (arith, was)

-- one more right is counted
pub counted_more : (f : Weight → ℕ) (counts : Counts) (what : RightKind) (port : ℕ) → port < 2 ^ 64
    → AreCounted f counts → AreCounted (λ w. f w + w what port) (right_more counts what port)
counted_more f counts kind.Send port small are = record {
  sends =
      λ serial other. count_more counts 0 port 0 serial small other ∙ ap
      (λ (n : ℕ). n + cond (port == serial) 1 0) (are.sends serial other);
  onces =
      λ serial other. count_more counts 0 port 1 serial small other ∙ ap (λ (n : ℕ). n + 0) (are.onces serial other);
}
counted_more f counts kind.SendOnce port small are = record {
  sends =
      λ serial other. count_more counts 1 port 0 serial small other ∙ ap (λ (n : ℕ). n + 0) (are.sends serial other);
  onces =
      λ serial other. count_more counts 1 port 1 serial small other ∙ ap
      (λ (n : ℕ). n + cond (port == serial) 1 0) (are.onces serial other);
}
counted_more f counts kind.Receive port small are = record {
  sends = λ serial other. are.sends serial other ∙ omega arith;
  onces = λ serial other. are.onces serial other ∙ omega arith;
}

-- one right less is counted
pub counted_fewer : (f : Weight → ℕ) (counts : Counts) (what : RightKind) (port : ℕ) → port < 2 ^ 64
    → AreCounted (λ w. f w + w what port) counts → AreCounted f (right_fewer counts what port)
counted_fewer f counts kind.Send port small are = record {
  sends = λ serial other. count_fewer counts 0 port 0 serial _ small other (are.sends serial other);
  onces = λ serial other. count_fewer counts 0 port 1 serial _ small other (are.onces serial other);
}
counted_fewer f counts kind.SendOnce port small are = record {
  sends = λ serial other. count_fewer counts 1 port 0 serial _ small other (are.sends serial other);
  onces = λ serial other. count_fewer counts 1 port 1 serial _ small other (are.onces serial other);
}
counted_fewer f counts kind.Receive port small are = record {
  sends = λ serial other. are.sends serial other ∙ omega arith;
  onces = λ serial other. are.onces serial other ∙ omega arith;
}
