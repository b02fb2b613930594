-- The names after a port's death, changed place by place.
use Rattle.std.proofs.Common.{◌≡◌, ℕ, ◌+◌, ◌^◌, ◌<◌, ◌≤◌, ◌==◌, ◌/◌, ◌%◌, Bool, true, false, cond, ◌&&◌, nat_lt, Option, None, Some, MatchOption, is_some, option_map, option_and_then, refl, sym, ◌∙◌, ap, subst, arith}
use Rattle.std.proofs.lemmas.Bool.{ltb-false, ltb-true}
use Rattle.std.specs.Cmp.{nat_cmp_total}
use Rattle.std.specs.Ordering.{nat_cmp, eq_by_cmp}
use Rattle.std.specs.FinMap.{get, insert, get-insert, same_map, nat_cmp-IsAntisymmetric}
use Rattle.ipc_laws.specs.MapLaws.{get-map_values}
use Rattle.ipc_laws.specs.MapSums.{key_is, same_key}
use Rattle.ipc_model.specs.declared.entry.Entry.{Entry}
use Rattle.ipc_model.specs.declared.entry.Entry.TheVariants.{Port, SendOnce, Set, Dead}
use Rattle.ipc_model.specs.effects.Effects.{entry_after_death, map_values, one_more_if, without_target}
use Rattle.ipc_model.specs.state.Ipc.{Names, is_number, request_of}
use Rattle.port_space.specs.References.{AreFewReferences}
use Rattle.spaces.specs.Indexes.{AreSmall}
use Rattle.spaces.specs.Laws.{get_names_changed}
use Rattle.spaces.specs.Looking.{entry_in, port_named, place, at_place, parts, parts_of}
use Rattle.spaces.specs.Slots.{SpaceMap, TrackedSpaces, names_changed}

-- The names below the place are as after the death, and those from the place on are as before.
pub record Buried (port : ℕ) (before spaces : SpaceMap) (at : ℕ) : Type 0 where
  pub there : (space : ℕ) → is_some (get spaces space) ≡ is_some (get before space)
  pub done : (space name : ℕ) → name < 2 ^ 32 → place space name < at
      → entry_in spaces space name ≡ option_map (entry_after_death port) (entry_in before space name)
  pub left : (space name : ℕ) → name < 2 ^ 32 → at ≤ place space name
      → entry_in spaces space name ≡ entry_in before space name

-- the name at a place has neither a right to the port nor a request whose target is the port
abbrev pub StandsApart : ℕ → SpaceMap → ℕ → Type 0
StandsApart port spaces number =
    (is_number (at_place port_named spaces number) port ≡ false)
    × (is_number (at_place request_of spaces number) port ≡ false)

target_apart : (port : ℕ) (target : Option ℕ) → is_number target port ≡ false → without_target port target ≡ target
target_apart port None apart = refl
target_apart port (Some target) apart = ap (λ (b : Bool). cond b None (Some target)) apart

apart_stays : (port : ℕ) (entry : Entry) → is_number (port_named entry) port ≡ false
    → is_number (request_of entry) port ≡ false → entry_after_death port entry ≡ entry
apart_stays port (Port rights) named asked =
    ap (λ (b : Bool). cond b (Dead (rights.send + one_more_if rights.dead_name_target))
    (Port (record rights { dead_name_target = without_target port rights.dead_name_target }))) named
    ∙ ap (λ (t : Option ℕ). Port (record rights { dead_name_target = t }))
    (target_apart port rights.dead_name_target asked)
apart_stays port (SendOnce other target) named asked =
    ap (λ (b : Bool). cond b (Dead (1 + one_more_if target)) (SendOnce other (without_target port target))) named
    ∙ ap (SendOnce other) (target_apart port target asked)
apart_stays port Set named asked = refl
apart_stays port (Dead references) named asked = refl

-- such a name is the same before and after the death
stays : (port : ℕ) (spaces : SpaceMap) (space name : ℕ) → name < 2 ^ 32 → StandsApart port spaces (place space name)
    → entry_in spaces space name ≡ option_map (entry_after_death port) (entry_in spaces space name)
stays port spaces space name small apart =
    go (entry_in spaces space name) (sym (looked port_named) ∙ apart.0) (sym (looked request_of) ∙ apart.1)
  where
    looked : (look : Entry → Option ℕ)
        → is_number (at_place look spaces (place space name)) port
        ≡ is_number (option_and_then look (entry_in spaces space name)) port
    looked look =
        ap (λ (k : ℕ). is_number (option_and_then look (entry_in spaces k ((place space name) % 2 ^ 32))) port)
        (parts_of space name small).0
        ∙ ap (λ (k : ℕ). is_number (option_and_then look (entry_in spaces space k)) port) (parts_of space name small).1

    go : (o : Option Entry) → is_number (option_and_then port_named o) port ≡ false
        → is_number (option_and_then request_of o) port ≡ false → o ≡ option_map (entry_after_death port) o
    go None named asked = refl
    go (Some entry) named asked = ap Some (sym (apart_stays port entry named asked))

pub less_or_not : (a b : ℕ) (P : Type 0) → (a < b → P) → (b ≤ a → P) → P
less_or_not a b P first second =
    elim (nat_lt a b) as (λ (t : Bool). nat_lt a b ≡ t → P)
    [ true ↦ λ (e : _). first (ltb-true a b e) | false ↦ λ (e : _). second (ltb-false a b e) ] refl

-- the places between two others are such
pub passed : (port : ℕ) (before spaces : SpaceMap) (at next : ℕ) → at ≤ next → next ≤ 2 ^ 64
    → ((q : ℕ) → at ≤ q → q < next → StandsApart port spaces q) → Buried port before spaces at
    → Buried port before spaces next
passed port before spaces at next more fits apart buried = record {
  there = buried.there;
  done = λ space name small below. less_or_not (place space name) at _
      (λ less. buried.done space name small less)
      (λ from. stays port spaces space name small (apart (place space name) from below)
      ∙ ap (option_map (entry_after_death port)) (buried.left space name small from));
  left = λ space name small from. buried.left space name small (omega (arith, more, from));
}

-- all places are done
pub all_buried : (port : ℕ) (before spaces : SpaceMap) → AreSmall before → AreSmall spaces
    → Buried port before spaces (2 ^ 64) → spaces ≡ map_values (map_values (entry_after_death port)) before
all_buried port before spaces small_before small buried =
    same_map nat_cmp_total nat_cmp-IsAntisymmetric spaces _
    (λ s. by_case s (get spaces s) (get before s) refl refl (buried.there s)
    ∙ sym (get-map_values (map_values (entry_after_death port)) before s))
  where
    none_of : (o : Option Entry) → (is_some o ≡ true → ⊥) → o ≡ None
    none_of None never = refl
    none_of (Some e) never = absurd (never refl)

    alike : (s n : ℕ) → entry_in spaces s n ≡ option_map (entry_after_death port) (entry_in before s n)
    alike s n = less_or_not n (2 ^ 32) _
        (λ fits. less_or_not s (2 ^ 32) _
        (λ few. buried.done s n fits (omega (arith, fits, few)))
        (λ many. none_of (entry_in spaces s n) (λ some. absurd (omega (arith, many, (small s n some).0)))
        ∙ sym (ap (option_map (entry_after_death port))
        (none_of (entry_in before s n) (λ some. absurd (omega (arith, many, (small_before s n some).0)))))))
        (λ past. none_of (entry_in spaces s n) (λ some. absurd (omega (arith, past, (small s n some).1)))
        ∙ sym (ap (option_map (entry_after_death port))
        (none_of (entry_in before s n) (λ some. absurd (omega (arith, past, (small_before s n some).1))))))

    by_case : (s : ℕ) (o p : Option Names) → get spaces s ≡ o → get before s ≡ p
        → is_some (get spaces s) ≡ is_some (get before s)
        → get spaces s ≡ option_map (map_values (entry_after_death port)) (get before s)
    by_case s None None here was same = here ∙ sym (ap (option_map (map_values (entry_after_death port))) was)
    by_case s None (Some names) here was same = absurd (cc (ap is_some (sym here) ∙ same ∙ ap is_some was))
    by_case s (Some names) None here was same = absurd (cc (ap is_some (sym here) ∙ same ∙ ap is_some was))
    by_case s (Some names) (Some former) here was same =
        here ∙ ap Some (same_map nat_cmp_total nat_cmp-IsAntisymmetric names
        (map_values (entry_after_death port) former) (λ n.
        sym (ap (option_and_then (λ (m : Names). get m n)) here) ∙ alike s n ∙ ap
        (λ (m : Option Names). option_map (entry_after_death port) (option_and_then (λ names. get names n) m)) was ∙
        sym (get-map_values (entry_after_death port) former n)))
        ∙ sym (ap (option_map (map_values (entry_after_death port))) was)

-- an existing entry is replaced
entry_put : (spaces : SpaceMap) (space name : ℕ) (entry : Entry) (s n : ℕ) → is_some (get spaces space) ≡ true
    → entry_in (names_changed spaces space (λ names. insert names name entry)) s n
    ≡ cond (eq_by_cmp nat_cmp s space && eq_by_cmp nat_cmp n name) (Some entry) (entry_in spaces s n)
entry_put spaces space name entry s n there =
    ap (option_and_then (λ (m : Names). get m n))
    (get_names_changed spaces space (λ names. insert names name entry) s (get spaces space) refl)
    ∙ go (eq_by_cmp nat_cmp s space) refl (get spaces space) refl there
  where
    go : (b : Bool) → eq_by_cmp nat_cmp s space ≡ b → (o : Option Names) → get spaces space ≡ o → is_some o ≡ true
        → option_and_then (λ (m : Names). get m n)
        (cond b (option_map (λ names. insert names name entry) o) (get spaces s))
        ≡ cond (b && eq_by_cmp nat_cmp n name) (Some entry) (entry_in spaces s n)
    go true same None at some = absurd (cc some)
    go true same (Some names) at some =
        get-insert nat_cmp_total names name entry n
        ∙ ap (cond (eq_by_cmp nat_cmp n name) (Some entry))
        (sym (ap (option_and_then (λ (m : Names). get m n)) (ap (get spaces) (key_is s space same) ∙ at)))
    go false _ o at some = refl

has_space : (o : Option Names) (name : ℕ) (entry : Entry) → option_and_then (λ (m : Names). get m name) o ≡ Some entry
    → is_some o ≡ true
has_space None name entry at = absurd (cc at)
has_space (Some names) name entry at = refl

-- the name at the next place is done
pub one_buried : (port : ℕ) (before spaces : SpaceMap) (space name : ℕ) (entry : Entry) → name < 2 ^ 32
    → entry_in spaces space name ≡ Some entry → Buried port before spaces (place space name)
    → Buried port before (names_changed spaces space (λ names. insert names name (entry_after_death port entry)))
    (place space name + 1)
one_buried port before spaces space name entry fits at buried = record {
  there =
      λ s. ap is_some (get_names_changed spaces space
      (λ names. insert names name (entry_after_death port entry)) s (get spaces space) refl)
      ∙ kept s (eq_by_cmp nat_cmp s space) refl ∙ buried.there s;
  done =
      λ s n small below. entry_put spaces space name (entry_after_death port entry) s n some
      ∙ finished s n small below (eq_by_cmp nat_cmp s space) refl (eq_by_cmp nat_cmp n name) refl;
  left =
      λ s n small from. entry_put spaces space name (entry_after_death port entry) s n some
      ∙ waiting s n small from (eq_by_cmp nat_cmp s space) refl (eq_by_cmp nat_cmp n name) refl;
}
  where
    some : is_some (get spaces space) ≡ true
    some = has_space (get spaces space) name entry at

    mapped : (o : Option Names) → is_some
        (option_map (λ (names : Names). insert names name (entry_after_death port entry)) o) ≡ is_some o
    mapped None = refl
    mapped (Some names) = refl

    kept : (s : ℕ) (b : Bool) → eq_by_cmp nat_cmp s space ≡ b
        → is_some (cond b (option_map (λ names. insert names name (entry_after_death port entry)) (get spaces space))
        (get spaces s)) ≡ is_some (get spaces s)
    kept s true same = mapped (get spaces space) ∙ ap (λ (k : ℕ). is_some (get spaces k)) (sym (key_is s space same))
    kept s false _ = refl

    both : (s n : ℕ) → eq_by_cmp nat_cmp s space ≡ true → eq_by_cmp nat_cmp n name ≡ true → place s n ≡ place space name
    both s n first second = ap (λ (k : ℕ). place k n) (key_is s space first) ∙ ap (place space) (key_is n name second)

    apart_by : (s n : ℕ) → n < 2 ^ 32 → (eq_by_cmp nat_cmp s space && eq_by_cmp nat_cmp n name) ≡ false
        → place s n ≡ place space name → ⊥
    apart_by s n small off same =
        let first : s ≡ space = omega (arith, same, small, fits) in
        let second : n ≡ name = omega (arith, same, small, fits) in
        cc (sym off ∙ ap (λ (b : Bool). b && eq_by_cmp nat_cmp n name)
        (ap (λ (k : ℕ). eq_by_cmp nat_cmp k space) first ∙ same_key space)
        ∙ (ap (λ (k : ℕ). eq_by_cmp nat_cmp k name) second ∙ same_key name))

    stood : (s n : ℕ) → place s n ≡ place space name → n < 2 ^ 32 → eq_by_cmp nat_cmp s space ≡ true
        → eq_by_cmp nat_cmp n name ≡ true
        → Some (entry_after_death port entry) ≡ option_map (entry_after_death port) (entry_in before s n)
    stood s n same small first second =
        ap (option_map (entry_after_death port))
        (sym at ∙ sym (ap (λ (k : ℕ). entry_in spaces k n) (key_is s space first)
        ∙ ap (entry_in spaces space) (key_is n name second)) ∙ buried.left s n small (omega (arith, same)))

    finished : (s n : ℕ) → n < 2 ^ 32 → place s n < place space name + 1 → (a : Bool) → eq_by_cmp nat_cmp s space ≡ a
        → (b : Bool) → eq_by_cmp nat_cmp n name ≡ b
        → cond (a && b) (Some (entry_after_death port entry)) (entry_in spaces s n)
        ≡ option_map (entry_after_death port) (entry_in before s n)
    finished s n small below true first true second = stood s n (both s n first second) small first second
    finished s n small below true first false second =
        let never = apart_by s n small (ap (λ (b : Bool). b && eq_by_cmp nat_cmp n name) first ∙ second) in
        buried.done s n small (less_or_not (place s n) (place space name) (place s n < place space name) (λ less. less)
        (λ from. absurd (never (omega (arith, from, below)))))
    finished s n small below false first b second =
        let never = apart_by s n small (ap (λ (b : Bool). b && eq_by_cmp nat_cmp n name) first) in
        buried.done s n small (less_or_not (place s n) (place space name) (place s n < place space name) (λ less. less)
        (λ from. absurd (never (omega (arith, from, below)))))

    waiting : (s n : ℕ) → n < 2 ^ 32 → place space name + 1 ≤ place s n → (a : Bool) → eq_by_cmp nat_cmp s space ≡ a
        → (b : Bool) → eq_by_cmp nat_cmp n name ≡ b
        → cond (a && b) (Some (entry_after_death port entry)) (entry_in spaces s n) ≡ entry_in before s n
    waiting s n small from true first true second =
        let same = both s n first second in absurd (omega (arith, same, from))
    waiting s n small from true first false second = buried.left s n small (omega (arith, from))
    waiting s n small from false first b second = buried.left s n small (omega (arith, from))

-- the first place from a given one on whose name has a right to the port or a request whose target it is
abbrev pub IsNextMention : ℕ → SpaceMap → ℕ → Option ℕ → Type 0
IsNextMention port spaces from found = MatchOption found ((q : ℕ) → from ≤ q → q < 2 ^ 64 → StandsApart port spaces q)
    (λ first. (from ≤ first) × (first < 2 ^ 64) × ((q : ℕ) → from ≤ q → q < first → StandsApart port spaces q))

-- an entry after the death is within the bound of references
pub few_after_death : (serial : ℕ) (entry : Entry) → AreFewReferences entry
    → AreFewReferences (entry_after_death serial entry)
few_after_death serial (Port rights) few =
    elim (rights.port == serial) as (λ (b : Bool). AreFewReferences
    (cond b (Dead (rights.send + one_more_if rights.dead_name_target))
    (Port (record rights { dead_name_target = without_target serial rights.dead_name_target })))) [
      | true ↦ elim rights.dead_name_target as (λ (o : Option ℕ). rights.send + one_more_if o ≤ 65535)
          [ None ↦ omega arith | Some target ↦ omega arith ]
      | false ↦ few
    ]
few_after_death serial (SendOnce port target) few =
    elim (port == serial) as (λ (b : Bool). AreFewReferences
    (cond b (Dead (1 + one_more_if target)) (SendOnce port (without_target serial target)))) [
      | true ↦ elim target as (λ (o : Option ℕ). 1 + one_more_if o ≤ 65535)
          [ None ↦ omega arith | Some other ↦ omega arith ]
      | false ↦ tt
    ]
few_after_death serial Set few = tt
few_after_death serial (Dead references) few = few

-- the change at one place
abbrev pub IsBuriedAt : ℕ → TrackedSpaces → TrackedSpaces → ℕ → Type 0
IsBuriedAt port old new number = MatchOption (entry_in old.current (number / 2 ^ 32) (number % 2 ^ 32)) (new ≡ old)
    (λ entry. new ≡ record old {
      current = names_changed old.current (number / 2 ^ 32)
          (λ names. insert names (number % 2 ^ 32) (entry_after_death port entry));
    })

pub place_buried : (port : ℕ) (before : SpaceMap) (old new : TrackedSpaces) (at number next : ℕ) → next ≡ number + 1
    → at ≤ number → number < 2 ^ 64 → ((q : ℕ) → at ≤ q → q < number → StandsApart port old.current q)
    → IsBuriedAt port old new number → Buried port before old.current at → Buried port before new.current next
    × (new.before ≡ old.before)
place_buried port before old new at number next after from fits apart done buried =
    go (entry_in old.current (number / 2 ^ 32) (number % 2 ^ 32)) refl done
  where
    here : Buried port before old.current number
    here = passed port before old.current at number from (omega (arith, fits)) apart buried

    whole : number ≡ place (number / 2 ^ 32) (number % 2 ^ 32)
    whole = (parts number).0

    go : (o : Option Entry) → entry_in old.current (number / 2 ^ 32) (number % 2 ^ 32) ≡ o
        → MatchOption o (new ≡ old) (λ entry. new
        ≡ record old {
          current = names_changed old.current (number / 2 ^ 32)
              (λ names. insert names (number % 2 ^ 32) (entry_after_death port entry));
        })
        → Buried port before new.current next × (new.before ≡ old.before)
    go None none same =
        let alone : StandsApart port old.current number = (
          ap (λ (o : Option Entry). is_number (option_and_then port_named o) port) none,
          ap (λ (o : Option Entry). is_number (option_and_then request_of o) port) none,
        ) in
        let further =
        passed port before old.current number next (omega (arith, after)) (omega (arith, after, fits))
        (λ q least below. subst (StandsApart port old.current) (omega (arith, least, below, after)) alone) here
        in (
          subst (λ (t : TrackedSpaces). Buried port before t.current next) (sym same) further,
          ap (λ (t : TrackedSpaces). t.before) same,
        )
    go (Some entry) at_name changed =
        let one =
        one_buried port before old.current (number / 2 ^ 32) (number % 2 ^ 32) entry (parts number).1 at_name
        (subst (Buried port before old.current) whole here) in (
          subst (λ (t : TrackedSpaces). Buried port before t.current next) (sym changed)
              (subst (Buried port before _) (sym (after ∙ ap (λ (k : ℕ). k + 1) whole)) one),
          ap (λ (t : TrackedSpaces). t.before) changed,
        )
