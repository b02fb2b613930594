-- The index by port, as names are added, changed and removed.
use Rattle.std.proofs.Common.{◌≡◌, ℕ, ◌^◌, ◌<◌, ◌==◌, Bool, true, false, cond, ◌&&◌, Option, None, Some, is_some, refl, sym, ◌∙◌, ap, arith}
use Rattle.std.proofs.lemmas.Bool.{eqb-true, eq-eqb}
use Rattle.std.specs.Cmp.{nat_cmp_total}
use Rattle.std.specs.Ordering.{nat_cmp, eq_by_cmp}
use Rattle.std.specs.Prelude.{option_and_then}
use Rattle.std.specs.FinMap.{get, get-insert, get-remove}
use Rattle.ipc_model.specs.declared.entry.Entry.{Entry}
use Rattle.ipc_model.specs.state.Ipc.{Names, is_number, port_held}
use Rattle.ipc_laws.specs.MapSums.{key_is, same_key}
use Rattle.port_space.specs.Alongside.{Numbers, has, holds, port_key, AreByPort, with_port, without_port}

same_keys : (s n t m : ℕ) → n < 2 ^ 32 → m < 2 ^ 32
    → eq_by_cmp nat_cmp (port_key s n) (port_key t m) ≡ (eq_by_cmp nat_cmp s t && eq_by_cmp nat_cmp n m)
same_keys s n t m small other =
    go (eq_by_cmp nat_cmp (port_key s n) (port_key t m)) refl (eq_by_cmp nat_cmp s t) refl (eq_by_cmp nat_cmp n m) refl
  where
    both : port_key s n ≡ port_key t m → (s ≡ t) × (n ≡ m)
    both e = (omega (arith, e, small, other), omega (arith, e, small, other))

    go : (k : Bool) → eq_by_cmp nat_cmp (port_key s n) (port_key t m) ≡ k → (a : Bool) → eq_by_cmp nat_cmp s t ≡ a
        → (b : Bool) → eq_by_cmp nat_cmp n m ≡ b → k ≡ (a && b)
    go true whole true first true second = refl
    go false whole true first true second =
        absurd (cc (sym whole ∙ ap (λ (q : ℕ). eq_by_cmp nat_cmp q (port_key t m))
        (ap (λ (x : ℕ). port_key x n) (key_is s t first) ∙ ap (port_key t) (key_is n m second))
        ∙ same_key (port_key t m)))
    go true whole false first b second =
        absurd (cc (sym first ∙ ap (λ (q : ℕ). eq_by_cmp nat_cmp q t) (both (key_is _ _ whole)).0 ∙ same_key t))
    go true whole true first false second =
        absurd (cc (sym second ∙ ap (λ (q : ℕ). eq_by_cmp nat_cmp q m) (both (key_is _ _ whole)).1 ∙ same_key m))
    go false whole false first b second = refl
    go false whole true first false second = refl

number_same : (o : ℕ) (s : ℕ) → is_number (Some o) s ≡ eq_by_cmp nat_cmp s o
number_same o s = go (o == s) refl (eq_by_cmp nat_cmp s o) refl
  where
    go : (a : Bool) → (o == s) ≡ a → (b : Bool) → eq_by_cmp nat_cmp s o ≡ b → a ≡ b
    go true first true second = refl
    go false first false second = refl
    go true first false second =
        absurd (cc (sym second ∙ ap (λ (q : ℕ). eq_by_cmp nat_cmp q o) (sym (eqb-true o s first)) ∙ same_key o))
    go false first true second = absurd (cc (sym first ∙ eq-eqb o s (sym (key_is s o second))))

has_with : (numbers : Numbers) (held : Option ℕ) (name s n : ℕ) → name < 2 ^ 32 → n < 2 ^ 32
    → has (with_port numbers held name) (port_key s n)
    ≡ cond (is_number held s && eq_by_cmp nat_cmp n name) true (has numbers (port_key s n))
has_with numbers None name s n small other = refl
has_with numbers (Some t) name s n small other =
    ap is_some (get-insert nat_cmp_total numbers (port_key t name) tt (port_key s n))
    ∙ ap (λ (b : Bool). is_some (cond b (Some tt) (get numbers (port_key s n))))
    (same_keys s n t name other small ∙ ap (λ (b : Bool). b && eq_by_cmp nat_cmp n name) (sym (number_same t s)))
    ∙ cond_some (is_number (Some t) s && eq_by_cmp nat_cmp n name) (get numbers (port_key s n))
  where
    cond_some : (b : Bool) (o : Option (Unit {0})) → is_some (cond b (Some tt) o) ≡ cond b true (is_some o)
    cond_some true o = refl
    cond_some false o = refl

has_without : (numbers : Numbers) (held : Option ℕ) (name s n : ℕ) → name < 2 ^ 32 → n < 2 ^ 32
    → has (without_port numbers held name) (port_key s n)
    ≡ cond (is_number held s && eq_by_cmp nat_cmp n name) false (has numbers (port_key s n))
has_without numbers None name s n small other = refl
has_without numbers (Some t) name s n small other =
    ap is_some (get-remove nat_cmp_total numbers (port_key t name) (port_key s n))
    ∙ ap (λ (b : Bool). is_some (cond b None (get numbers (port_key s n))))
    (same_keys s n t name other small ∙ ap (λ (b : Bool). b && eq_by_cmp nat_cmp n name) (sym (number_same t s)))
    ∙ cond_none (is_number (Some t) s && eq_by_cmp nat_cmp n name) (get numbers (port_key s n))
  where
    cond_none : (b : Bool) (o : Option (Unit {0})) → is_some (cond b None o) ≡ cond b false (is_some o)
    cond_none true o = refl
    cond_none false o = refl

-- one entry changed, and with it the place of the name in the index
pub by_port_changed : (names after : Names) (numbers : Numbers) (name : ℕ) (o : Option Entry) → name < 2 ^ 32
    → ((q : ℕ) → get after q ≡ cond (eq_by_cmp nat_cmp q name) o (get names q)) → AreByPort names numbers
    → AreByPort after (with_port (without_port numbers (option_and_then port_held (get names name)) name)
    (option_and_then port_held o) name)
by_port_changed names after numbers name o small changed ports s n other =
    has_with (without_port numbers was name) is name s n small other
    ∙ ap (cond (is_number is s && eq_by_cmp nat_cmp n name) true)
    (has_without numbers was name s n small other
    ∙ ap (cond (is_number was s && eq_by_cmp nat_cmp n name) false) (ports s n other))
    ∙ go (eq_by_cmp nat_cmp n name) refl
    ∙ sym (ap (λ (p : Option Entry). is_number (option_and_then port_held p) s) (changed n))
  where
    was : Option ℕ
    was = option_and_then port_held (get names name)

    is : Option ℕ
    is = option_and_then port_held o

    here : (a b : Bool) → cond (b && true) true (cond (a && true) false a) ≡ b
    here true true = refl
    here true false = refl
    here false true = refl
    here false false = refl

    there : (a b c : Bool) → cond (b && false) true (cond (a && false) false c) ≡ c
    there true true c = refl
    there true false c = refl
    there false true c = refl
    there false false c = refl

    go : (b : Bool) → eq_by_cmp nat_cmp n name ≡ b
        → cond (is_number is s && b) true (cond (is_number was s && b) false (holds names s n))
        ≡ is_number (option_and_then port_held (cond b o (get names n))) s
    go true same =
        ap (λ (q : ℕ). cond (is_number is s && true) true
        (cond (is_number was s && true) false (is_number (option_and_then port_held (get names q)) s)))
        (key_is n name same) ∙ here (is_number was s) (is_number is s)
    go false same = there (is_number was s) (is_number is s) (holds names s n)
