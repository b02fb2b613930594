-- Indexes of names by the ports of their receive rights, by the ports of their other rights, and by the targets of
-- their requests.
use Rattle.std.proofs.Common.{nat_lt, if◌then◌else◌, ◌≡◌, ℕ, ◌^◌, ◌<◌, ◌≤◌, ◌/◌, ◌%◌, Bool, true, false, cond, [], ◌∷◌, ◌++◌, Option, None, Some, MatchOption, is_some, option_map, option_and_then, refl, sym, ◌∙◌, ap, subst, arith}
use Rattle.std.specs.Cmp.{nat_cmp_total}
use Rattle.std.specs.Ordering.{nat_cmp, eq_by_cmp}
use Rattle.std.specs.FinMap.{empty, get, insert, remove, get-empty, get-insert, get-remove}
use Rattle.ipc_model.specs.declared.entry.Entry.{Entry}
use Rattle.ipc_model.specs.state.Ipc.{Names, is_number, request_of, received_port}
use Rattle.ipc_laws.specs.MapSums.{key_is}
use Rattle.port_indexes.specs.Places.{Numbers, moved, IsNext}
use Rattle.port_indexes.specs.Indexed.{IsIndexed, nothing_indexed, place_moved, alike_indexed}
use Rattle.port_indexes.specs.Counts.{Counts}
use Rattle.spaces.specs.Counting.{AreWords, SpacesAreCounted, entry_fewer, entry_more, moved_counted, nothing_counted}
use Rattle.spaces.specs.declared.indexes.NameIndexes.{NameIndexes}
use Rattle.spaces.specs.Laws.{get_names_changed}
use Rattle.spaces.specs.Looking.{entry_in, port_shared, place, at_place, place_changed, parts_of}
use Rattle.spaces.specs.Slots.{SpaceMap, names_changed}
use Rattle.tracked_map.specs.Tracked.{at_rest}

-- names and space numbers fit 32 bits
abbrev pub AreSmall : SpaceMap → Type 0
AreSmall spaces = (space name : ℕ) → is_some (entry_in spaces space name) ≡ true → (space < 2 ^ 32) × (name < 2 ^ 32)

pub record AreIndexed (spaces : SpaceMap) (sharers requesters receivers : Numbers) (counts : Counts) : Type 0 where
  pub held : IsIndexed (at_place port_shared spaces) sharers
  pub requested : IsIndexed (at_place request_of spaces) requesters
  pub received : IsIndexed (at_place received_port spaces) receivers
  pub counted : SpacesAreCounted spaces counts
  pub small : AreSmall spaces

-- the entry of a name was replaced
pub record IsMoved (old new : NameIndexes) (number : ℕ) (former entry : Option Entry) : Type 0 where
  pub held : new.sharers.current
      ≡ moved old.sharers.current number (option_and_then port_shared former) (option_and_then port_shared entry)
  pub requested : new.requesters.current
      ≡ moved old.requesters.current number (option_and_then request_of former) (option_and_then request_of entry)
  pub received : new.receivers.current
      ≡ moved old.receivers.current number (option_and_then received_port former) (option_and_then received_port entry)
  pub counted : new.counts.current ≡ entry_fewer (entry_more old.counts.current entry) former
  pub former_words : AreWords former
  pub words : AreWords entry
  pub noted : new.changed.items ≡ old.changed.items ++ number ∷ []

pub record SameBefore (old new : NameIndexes) : Type 0 where
  pub held : new.sharers.before ≡ old.sharers.before
  pub requested : new.requesters.before ≡ old.requesters.before
  pub received : new.receivers.before ≡ old.receivers.before
  pub counted : new.counts.before ≡ old.counts.before

pub record AreRolledBack (old new : NameIndexes) : Type 0 where
  pub held : new.sharers ≡ at_rest old.sharers.before
  pub requested : new.requesters ≡ at_rest old.requesters.before
  pub received : new.receivers ≡ at_rest old.receivers.before
  pub counted : new.counts ≡ at_rest old.counts.before
  pub noted : new.changed.items ≡ []

pub record AreCommitted (old new : NameIndexes) : Type 0 where
  pub held : new.sharers ≡ at_rest old.sharers.current
  pub requested : new.requesters ≡ at_rest old.requesters.current
  pub received : new.receivers ≡ at_rest old.receivers.current
  pub counted : new.counts ≡ at_rest old.counts.current
  pub noted : new.changed.items ≡ []

-- the indexes after one name has changed
pub moved_indexed : (spaces : SpaceMap) (old new : NameIndexes) (space name : ℕ) (names : Names)
    (change : Names → Names) (o : Option Entry) → name < 2 ^ 32 → space < 2 ^ 32 → get spaces space ≡ Some names
    → ((n : ℕ) → get (change names) n ≡ cond (eq_by_cmp nat_cmp n name) o (get names n))
    → AreIndexed spaces old.sharers.current old.requesters.current old.receivers.current old.counts.current
    → IsMoved old new (place space name) (get names name) o
    → AreIndexed (names_changed spaces space change) new.sharers.current new.requesters.current new.receivers.current
    new.counts.current
moved_indexed spaces old new space name names change o small few there changed are done = record {
  held = one port_shared old.sharers.current new.sharers.current are.held done.held;
  requested = one request_of old.requesters.current new.requesters.current are.requested done.requested;
  received = one received_port old.receivers.current new.receivers.current are.received done.received;
  counted =
      moved_counted spaces old.counts.current new.counts.current space name names change o there changed
      done.former_words done.words done.counted are.counted;
  small =
      λ s n some. within s n (eq_by_cmp nat_cmp s space) refl
      (sym (ap (λ (m : Option Names). is_some (option_and_then (λ names. get names n) m))
      (get_names_changed spaces space change s (get spaces space) refl ∙ ap
      (λ (m : Option Names). cond (eq_by_cmp nat_cmp s space) (option_map change m) (get spaces s)) there))
      ∙ some);
}
  where
    named : (s n : ℕ) (b : Bool) → eq_by_cmp nat_cmp s space ≡ true → eq_by_cmp nat_cmp n name ≡ b
        → is_some (cond b o (get names n)) ≡ true → (s < 2 ^ 32) × (n < 2 ^ 32)
    named s n true same here some = (
      subst (λ (k : ℕ). k < 2 ^ 32) (sym (key_is s space same)) few,
      subst (λ (k : ℕ). k < 2 ^ 32) (sym (key_is n name here)) small,
    )
    named s n false same here some =
        let stands : is_some (entry_in spaces s n) ≡ true =
        ap (λ (m : Option Names). is_some (option_and_then (λ names. get names n) m))
        (ap (get spaces) (key_is s space same) ∙ there) ∙ some in
        are.small s n stands

    within : (s n : ℕ) (b : Bool) → eq_by_cmp nat_cmp s space ≡ b
        → is_some (option_and_then (λ (names : Names). get names n) (cond b (Some (change names)) (get spaces s)))
        ≡ true → (s < 2 ^ 32) × (n < 2 ^ 32)
    within s n true same some = named s n (eq_by_cmp nat_cmp n name) same refl (ap is_some (sym (changed n)) ∙ some)
    within s n false _ some = are.small s n some

    fits : place space name < 2 ^ 64
    fits = omega (arith, small, few)

    stood : (look : Entry → Option ℕ) → at_place look spaces (place space name) ≡ option_and_then look (get names name)
    stood look =
        ap (λ (k : ℕ). option_and_then look (entry_in spaces k ((place space name) % 2 ^ 32)))
        (parts_of space name small).0
        ∙ ap (λ (k : ℕ). option_and_then look (entry_in spaces space k)) (parts_of space name small).1
        ∙ ap (λ (n : Option Names). option_and_then look (option_and_then (λ names. get names name) n)) there

    one : (look : Entry → Option ℕ) (was is : Numbers)
        → IsIndexed (at_place look spaces) was → is
        ≡ moved was (place space name) (option_and_then look (get names name)) (option_and_then look o)
        → IsIndexed (at_place look (names_changed spaces space change)) is
    one look was is indexed same =
        subst (IsIndexed (at_place look (names_changed spaces space change)))
        (sym (same ∙ ap (λ (f : Option ℕ). moved was (place space name) f (option_and_then look o))
        (sym (stood look))))
        (place_moved (at_place look spaces) (at_place look (names_changed spaces space change)) was (place space name)
        (option_and_then look o) fits (place_changed look spaces space name names change o small there changed)
        indexed)

pub none_indexed : (spaces : SpaceMap) (sharers requesters receivers : Numbers) (counts : Counts) → spaces ≡ empty
    → sharers ≡ empty → requesters ≡ empty → receivers ≡ empty → counts ≡ empty
    → AreIndexed spaces sharers requesters receivers counts
none_indexed spaces sharers requesters receivers counts none a b c d = record {
  held = nothing_indexed (at_place port_shared spaces) sharers (nothing port_shared) a;
  requested = nothing_indexed (at_place request_of spaces) requesters (nothing request_of) b;
  received = nothing_indexed (at_place received_port spaces) receivers (nothing received_port) c;
  counted = nothing_counted spaces counts none d;
  small =
      λ s n some. absurd (cc (sym some
      ∙ ap is_some (ap (λ (m : SpaceMap). entry_in m s n) none ∙ ap
      (λ (m : Option Names). option_and_then (λ names. get names n) m) (get-empty nat_cmp s))));
}
  where
    nothing : (look : Entry → Option ℕ) (q : ℕ) → at_place look spaces q ≡ None
    nothing look q =
        ap (λ (s : SpaceMap). at_place look s q) none ∙ ap
        (λ (n : Option Names). option_and_then look (option_and_then (λ names. get names (q % 2 ^ 32)) n))
        (get-empty nat_cmp (q / 2 ^ 32))

-- the same indexes for spaces with the same entries
pub same_indexed : (spaces other : SpaceMap) (sharers requesters receivers : Numbers) (counts : Counts)
    → ((space name : ℕ) → entry_in spaces space name ≡ entry_in other space name)
    → (SpacesAreCounted spaces counts → SpacesAreCounted other counts)
    → AreIndexed spaces sharers requesters receivers counts → AreIndexed other sharers requesters receivers counts
same_indexed spaces other sharers requesters receivers counts alike counted are = record {
  held =
      alike_indexed (at_place port_shared spaces) (at_place port_shared other) sharers
      (λ q _. ap (option_and_then port_shared) (alike (q / 2 ^ 32) (q % 2 ^ 32))) are.held;
  requested =
      alike_indexed (at_place request_of spaces) (at_place request_of other) requesters
      (λ q _. ap (option_and_then request_of) (alike (q / 2 ^ 32) (q % 2 ^ 32))) are.requested;
  received =
      alike_indexed (at_place received_port spaces) (at_place received_port other) receivers
      (λ q _. ap (option_and_then received_port) (alike (q / 2 ^ 32) (q % 2 ^ 32))) are.received;
  counted = counted are.counted;
  small = λ s n some. are.small s n (ap is_some (alike s n) ∙ some);
}

-- the indexes at the last commit or rollback
pub indexed_before : (old new : NameIndexes) (spaces after : SpaceMap) → after ≡ spaces → SameBefore old new
    → AreIndexed spaces old.sharers.before old.requesters.before old.receivers.before old.counts.before
    → AreIndexed after new.sharers.before new.requesters.before new.receivers.before new.counts.before
indexed_before old new spaces after same before are =
    subst (λ (s : SpaceMap). AreIndexed s new.sharers.before new.requesters.before new.receivers.before
    new.counts.before) (sym same)
    (record {
      held = subst (IsIndexed (at_place port_shared spaces)) (sym before.held) are.held;
      requested = subst (IsIndexed (at_place request_of spaces)) (sym before.requested) are.requested;
      received = subst (IsIndexed (at_place received_port spaces)) (sym before.received) are.received;
      counted = subst (SpacesAreCounted spaces) (sym before.counted) are.counted;
      small = are.small;
    })

-- one name of an existing space has changed
pub indexed_after : (old new : NameIndexes) (spaces after : SpaceMap) (space name : ℕ) (change : Names → Names)
    (o : Option Entry) → name < 2 ^ 32 → space < 2 ^ 32 → is_some (get spaces space) ≡ true
    → ((names : Names) (n : ℕ) → get (change names) n ≡ cond (eq_by_cmp nat_cmp n name) o (get names n))
    → after ≡ names_changed spaces space change → IsMoved old new (place space name) (entry_in spaces space name) o
    → AreIndexed spaces old.sharers.current old.requesters.current old.receivers.current old.counts.current
    → AreIndexed after new.sharers.current new.requesters.current new.receivers.current new.counts.current
indexed_after old new spaces after space name change o small few there changed is done are =
    by_case (get spaces space) refl there
  where
    by_case : (n : Option Names) → get spaces space ≡ n → is_some n ≡ true
        → AreIndexed after new.sharers.current new.requesters.current new.receivers.current new.counts.current
    by_case None at some = absurd (cc some)
    by_case (Some names) at some =
        let stood : entry_in spaces space name ≡ get names name =
        ap (option_and_then (λ (names : Names). get names name)) at in
        subst (λ (s : SpaceMap). AreIndexed s new.sharers.current new.requesters.current new.receivers.current
        new.counts.current) (sym is)
        (moved_indexed spaces old new space name names change o small few at (changed names) are
        (subst (λ (f : Option Entry). IsMoved old new (place space name) f o) stood done))

-- the first place from a given one on for which the function gives the number
abbrev pub IsNextAt : (Entry → Option ℕ) → SpaceMap → ℕ → ℕ → Option ℕ → Type 0
IsNextAt look spaces number from found =
    MatchOption found ((place : ℕ) → from ≤ place → place < 2 ^ 64
    → is_number (at_place look spaces place) number ≡ false)
    (λ first. (from ≤ first) × (first < 2 ^ 64) × (is_number (at_place look spaces first) number ≡ true)
    × ((place : ℕ) → from ≤ place → place < first → is_number (at_place look spaces place) number ≡ false))

pub next_at : (look : Entry → Option ℕ) (spaces : SpaceMap) (places : Numbers) (number from : ℕ) (found : Option ℕ)
    → IsIndexed (at_place look spaces) places → IsNext places number from found → IsNextAt look spaces number from found
next_at look spaces places number from None indexed none =
    λ place after fits. sym (indexed number place fits) ∙ none place after fits
next_at look spaces places number from (Some first) indexed is = (
  is.0,
  is.1,
  sym (indexed number first is.1) ∙ is.2,
  λ place after before. sym (indexed number place (omega (arith, before, is.1))) ∙ is.3 place after before,
)

-- a space without names has no entries, like one that doesn't exist
pub opened_alike : (spaces : SpaceMap) (space : ℕ) → get spaces space ≡ None → (s name : ℕ)
    → entry_in spaces s name ≡ entry_in (insert spaces space empty) s name
opened_alike spaces space none s name =
    sym (ap (option_and_then (λ (names : Names). get names name)) (get-insert nat_cmp_total spaces space empty s)
    ∙ go (eq_by_cmp nat_cmp s space) refl)
  where
    go : (b : Bool) → eq_by_cmp nat_cmp s space ≡ b
        → option_and_then (λ (names : Names). get names name) (cond b (Some empty) (get spaces s))
        ≡ entry_in spaces s name
    go true same =
        get-empty nat_cmp name ∙ sym (ap (option_and_then (λ (names : Names). get names name))
        (ap (get spaces) (key_is s space same) ∙ none))
    go false _ = refl

pub closed_alike : (spaces : SpaceMap) (space : ℕ) → ((names : Names) → get spaces space ≡ Some names → names ≡ empty)
    → (s name : ℕ) → entry_in spaces s name ≡ entry_in (remove spaces space) s name
closed_alike spaces space none s name =
    sym (ap (option_and_then (λ (names : Names). get names name)) (get-remove nat_cmp_total spaces space s)
    ∙ go (eq_by_cmp nat_cmp s space) refl)
  where
    nothing : (o : Option Names) → get spaces space ≡ o → None ≡ option_and_then (λ (names : Names). get names name) o
    nothing None at = refl
    nothing (Some names) at = sym (ap (λ (n : Names). get n name) (none names at) ∙ get-empty nat_cmp name)

    go : (b : Bool) → eq_by_cmp nat_cmp s space ≡ b
        → option_and_then (λ (names : Names). get names name) (cond b None (get spaces s)) ≡ entry_in spaces s name
    go true same =
        nothing (get spaces space) refl
        ∙ sym (ap (λ (k : ℕ). option_and_then (λ (names : Names). get names name) (get spaces k))
        (key_is s space same))
    go false _ = refl

-- the lesser of two numbers, the only one, or None
abbrev pub lesser : Option ℕ → Option ℕ → Option ℕ
lesser None other = other
lesser (Some one) None = Some one
lesser (Some one) (Some other) = Some (if nat_lt other one then other else one)
