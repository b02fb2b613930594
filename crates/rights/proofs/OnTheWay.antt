-- A list of rights of which some have arrived.
use Rattle.std.proofs.Common.{◌≡◌, ℕ, ◌+◌, ◌<◌, ◌≤◌, List, [], ◌∷◌, ◌++◌, Option, None, Some, is_some, true, refl, sym, ◌∙◌, ap, subst, append_assoc, append-nil}
use Rattle.std.specs.Prelude.{MatchOption}
use Rattle.std.specs.Ordering.{nat_cmp}
use Rattle.std.specs.FinMap as finmap
use Rattle.std.specs.FinMap.{FinMap}
use Rattle.codes.specs.declared.limits.TheConstants.{MAX_NAMES}
use Rattle.ipc_model.specs.calls.PortCalls.{names_in}
use Rattle.ipc_model.specs.declared.message.CarriedRight.{CarriedRight}
use Rattle.ipc_model.specs.declared.message.PortInMessage.TheVariants as in_message
use Rattle.ipc_model.specs.rights.CopyOut.{Arrives, MayArrive, names_after, names_needed}
use Rattle.ipc_model.specs.state.Ipc.{Ipc, Names, with_names}
use Rattle.ipc_laws.specs.ListLaws.{same_head, same_tail}
use Rattle.ipc_laws.specs.MapLaws.{get-here}
use Rattle.ipc_laws.specs.MapSums.{insert-insert, insert-same}
use Rattle.rights.specs.Fitting.{Fits, fits_first, fits_later, room_for_one}

pub record OnTheWay (start now : Names) (rights rest : List CarriedRight) (wanted left given : List ℕ) : Type 0 where
  pub arrives : (others : List ℕ) (last : Names) → Arrives now rest others last
      → Arrives start rights (given ++ others) last
  pub fits : (named : List ℕ) × Fits start now named rest
  pub wants : (last : Names) → Arrives start rights wanted last → (wanted ≡ given ++ left) × Arrives now rest left last

pub way_first : (names : Names) (rights : List CarriedRight) (wanted given : List ℕ) → given ≡ []
    → finmap.len names + names_needed names [] rights ≤ MAX_NAMES
    → OnTheWay names names rights rights wanted wanted given
way_first names rights wanted given none room = record {
  arrives = λ others last arrives. subst (λ (l : List ℕ). Arrives names rights (l ++ others) last) (sym none) arrives;
  fits = ([], fits_first names rights room);
  wants = λ last arrives. (sym (ap (λ (l : List ℕ). l ++ wanted) none), arrives);
}

-- the preconditions of the next right and of those after it
wanted_front : (left later : List ℕ) (shown : Option ℕ) (n : ℕ) (others : List ℕ)
    → MatchOption shown ((left ≡ []) × (later ≡ [])) (λ first. left ≡ first ∷ later) → left ≡ n ∷ others
    → (shown ≡ Some n) × (later ≡ others)
wanted_front left later None n others front is = absurd (cc (sym front.0 ∙ is))
wanted_front left later (Some first) n others front is =
    let joined : first ∷ later ≡ n ∷ others = sym front ∙ is in
    (ap (λ k. Some k) (same_head first n later others joined), same_tail first n later others joined)

pub way_more : (start now after : Names) (rights rest beyond : List CarriedRight)
    (wanted left later given added : List ℕ) (right : CarriedRight) (name : ℕ) (shown : Option ℕ)
    → OnTheWay start now rights rest wanted left given
    → rest ≡ right ∷ beyond → MayArrive now right.kind right.port name
    → after ≡ names_after now right.kind right.port name → added ≡ given ++ name ∷ []
    → MatchOption shown ((left ≡ []) × (later ≡ [])) (λ first. left ≡ first ∷ later)
    → ((n : ℕ) → shown ≡ Some n → MayArrive now right.kind right.port n → name ≡ n)
    → OnTheWay start after rights beyond wanted later added
way_more start now after rights rest beyond wanted left later given added right name shown way is may after_is added_is
    front prefers =
    subst (λ (a : Names). OnTheWay start a rights beyond wanted later added) (sym after_is)
    (subst (λ (g : List ℕ). OnTheWay start next rights beyond wanted later g) (sym added_is)
    (record {
      arrives =
          λ others last arrives. subst (λ (l : List ℕ). Arrives start rights l last)
          (sym (append_assoc given (name ∷ []) others))
          (way.arrives (name ∷ others) last
          (subst (λ (l : List CarriedRight). Arrives now l (name ∷ others) last) (sym is)
          (name, others, refl, may, arrives)));
      fits = (
        _,
        fits_later start now way.fits.0 right beyond name
            (subst (λ (l : List CarriedRight). Fits start now way.fits.0 l) is way.fits.1) may,
      );
      wants = λ last arrives.
          let had = way.wants last arrives in
          let first = subst (λ (l : List CarriedRight). Arrives now l left last) is had.1 in
          let shown_is = wanted_front left later shown first.0 first.1 front first.2 in
          let name_is : name ≡ first.0 = prefers first.0 shown_is.0 first.3 in (
            had.0 ∙ ap (λ (l : List ℕ). given ++ l)
                (first.2 ∙ ap (λ (n : ℕ). n ∷ first.1) (sym name_is) ∙ ap (λ (l : List ℕ). name ∷ l) (sym shown_is.1))
                ∙ sym (append_assoc given (name ∷ []) later),
            subst (λ (n : ℕ). Arrives (names_after now right.kind right.port n) beyond later last) (sym name_is)
                (subst (λ (l : List ℕ). Arrives (names_after now right.kind right.port first.0) beyond l last)
                (sym shown_is.1) first.4),
          );
    }))
  where
    next : Names
    next = names_after now right.kind right.port name

-- there is room for the next right
pub way_room : (start now : Names) (rights rest beyond : List CarriedRight) (wanted left given : List ℕ)
    (right : CarriedRight) → OnTheWay start now rights rest wanted left given → rest ≡ right ∷ beyond
    → (name serial : ℕ) → right.port ≡ in_message.Live serial → MayArrive now right.kind right.port name
    → finmap.get now name ≡ None → finmap.len now < MAX_NAMES
way_room start now rights rest beyond wanted left given right way is name serial live may free =
    room_for_one start now way.fits.0 right beyond name serial live
    (subst (λ (l : List CarriedRight). Fits start now way.fits.0 l) is way.fits.1) may free

-- all rights have arrived
pub way_last : (start now : Names) (rights rest : List CarriedRight) (wanted left given : List ℕ)
    → OnTheWay start now rights rest wanted left given → rest ≡ [] → Arrives start rights given now
way_last start now rights rest wanted left given way none =
    subst (λ (l : List ℕ). Arrives start rights l now) (append-nil given)
    (way.arrives [] now (subst (λ (l : List CarriedRight). Arrives now l [] now) (sym none) (refl, refl)))

pub way_wanted : (start now : Names) (rights rest : List CarriedRight) (wanted left given : List ℕ)
    → OnTheWay start now rights rest wanted left given → rest ≡ [] → (last : Names) → Arrives start rights wanted last
    → given ≡ wanted
way_wanted start now rights rest wanted left given way none last arrives =
    let had = way.wants last arrives in
    let ended = subst (λ (l : List CarriedRight). Arrives now l left last) none had.1 in
    sym (had.0 ∙ ap (λ (l : List ℕ). given ++ l) ended.0 ∙ append-nil given)

-- Names of an existing space.

abbrev or_none : Option Names → Names
or_none None = finmap.empty
or_none (Some names) = names

pub there_is : (state : Ipc) (space : ℕ) → is_some (finmap.get state.spaces space) ≡ true
    → finmap.get state.spaces space ≡ Some (names_in state space)
there_is state space there = by_case (finmap.get state.spaces space) refl there
  where
    by_case : (o : Option Names) → finmap.get state.spaces space ≡ o → is_some o ≡ true
        → finmap.get state.spaces space ≡ Some (names_in state space)
    by_case None is some = absurd (cc some)
    by_case (Some names) is some = is ∙ ap (λ k. Some k) (sym (ap or_none is))

-- MACH_PORT_NULL and MACH_PORT_DEAD change nothing
pub unchanged : (state : Ipc) (space : ℕ) (right : CarriedRight) (name : ℕ)
    → is_some (finmap.get state.spaces space) ≡ true
    → names_after (names_in state space) right.kind right.port name ≡ names_in state space
    → state ≡ with_names state space (names_after (names_in state space) right.kind right.port name)
unchanged state space right name there same =
    ap (λ (spaces : FinMap nat_cmp Names). record state { spaces = spaces })
    (sym (insert-same state.spaces space (names_in state space) (there_is state space there) ∙ refl) ∙ ap
    (λ (n : Names). finmap.insert state.spaces space n) (sym same))

-- the names of a space after these rights arrived
pub names_got : (state new : Ipc) (space : ℕ) (names : Names) → new ≡ with_names state space names
    → names_in new space ≡ names
names_got state new space names is =
    ap (λ (s : Ipc). names_in s space) is ∙ ap or_none (get-here state.spaces space names)

pub there_too : (state new : Ipc) (space : ℕ) (names : Names) → new ≡ with_names state space names
    → is_some (finmap.get new.spaces space) ≡ true
there_too state new space names is =
    ap (λ (s : Ipc). is_some (finmap.get s.spaces space)) is ∙ ap is_some (get-here state.spaces space names)

-- initially no name has changed
pub got_first : (state : Ipc) (space : ℕ) → is_some (finmap.get state.spaces space) ≡ true
    → state ≡ with_names state space (names_in state space)
got_first state space there =
    ap (λ (spaces : FinMap nat_cmp Names). record state { spaces = spaces })
    (sym (insert-same state.spaces space (names_in state space) (there_is state space there)))

-- two successive changes of a space's names are one
pub got_later : (state now after : Ipc) (space : ℕ) (names : Names)
    → now ≡ with_names state space (names_in now space) → after ≡ with_names now space names
    → after ≡ with_names state space (names_in after space)
got_later state now after space names before is =
    is
    ∙ ap (λ (s : Ipc). with_names s space names) before
    ∙ ap (λ (spaces : FinMap nat_cmp Names). record state { spaces = spaces })
    (insert-insert state.spaces space (names_in now space) names)
    ∙ ap (with_names state space) (sym (names_got now after space names is))
