-- What a step leaves of the spaces that its caller isn't in: names of ports that die become dead names, and requests
-- whose target's port dies go; nothing else changes.
use Rattle.std.specs.Prelude.{◌≡◌, ◌≢◌, ◌⊎◌, ℕ, ◌+◌, Bool, true, false, ◌==◌, ◌&&◌, not, List, [], ◌∷◌, ◌++◌, Option, None, Some, is_some, option_map, if◌then◌else◌, refl}
use Rattle.std.proofs.Common.{sym, ◌∙◌, ap, subst, inl, inr}
use Rattle.std.proofs.lemmas.Bool.{eqb-true}
use Rattle.std.proofs.lemmas.Bool.Decides.{eqb_tells}
use Rattle.std.specs.Ordering.{nat_cmp}
use Rattle.std.specs.FinMap as finmap
use Rattle.ipc_model.specs.declared.entry.Entry.{Entry}
use Rattle.ipc_model.specs.declared.entry.Entry.TheVariants.{Port, SendOnce, Set, Dead}
use Rattle.ipc_model.specs.declared.message.RightKind.{RightKind}
use Rattle.ipc_model.specs.declared.message.RightKind.TheVariants as kind
use Rattle.ipc_model.specs.declared.port.PortState.{PortState}
use Rattle.ipc_model.specs.state.Circular.{is_circular}
use Rattle.ipc_model.specs.effects.Effects.{Effect, release, notify, effect, Settles, settled, next_effect, entry_after_death, port_after_death, after_death, map_values, without_target, one_more_if, notified, died, notified_no_senders, sent_to_target, receive_released_to, released, released_if_live}
use Rattle.ipc_laws.specs.MapLaws.{get-there, get-gone, get-left, get-map_values}
use Rattle.ipc_model.specs.messages.Notices.{Notice, notice_message}
use Rattle.ipc_model.specs.messages.Notices as notice
use Rattle.ipc_model.specs.state.Placed.{send_count}
use Rattle.ipc_model.specs.state.Ipc.{Ipc, Names, with_port, lives, request_of}

-- an entry stands for a right to a port
abbrev pub StandsFor : Entry → ℕ → Type 0
StandsFor (Port rights) serial = rights.port ≡ serial
StandsFor (SendOnce port target) serial = port ≡ serial
StandsFor Set serial = ⊥
StandsFor (Dead references) serial = ⊥

-- an entry without its dead-name request
abbrev pub without_request : Entry → Entry
without_request (Port rights) = Port (record rights { dead_name_target = None })
without_request (SendOnce port target) = SendOnce port None
without_request Set = Set
without_request (Dead references) = Dead references

-- An entry is as it was; or its port is dead and it has become a dead name; or the target of its request is dead and
-- the request has gone.
abbrev pub Fades : (ℕ → Bool) → Entry → Entry → Type 0
Fades live before after =
    (after ≡ before)
    ⊎ (((serial : ℕ) × StandsFor before serial × (live serial ≡ false) × (references : ℕ) × (after ≡ Dead references))
    ⊎ ((target : ℕ) × (request_of before ≡ Some target) × (live target ≡ false) × (after ≡ without_request before)))

abbrev pub FadesAt : (ℕ → Bool) → Option Entry → Option Entry → Type 0
FadesAt live None after = after ≡ None
FadesAt live (Some before) after = (entry : Entry) × (after ≡ Some entry) × Fades live before entry

-- the names of a space, each as it was or faded
abbrev pub NamesFade : (ℕ → Bool) → Names → Names → Type 0
NamesFade live before after = (name : ℕ) → FadesAt live (finmap.get before name) (finmap.get after name)

-- a space that existed still exists, and its names are as they were or have faded
abbrev pub SpaceFades : Ipc → Ipc → ℕ → Type 0
SpaceFades old new space =
    (before : Names) → finmap.get old.spaces space ≡ Some before → (after : Names)
    × (finmap.get new.spaces space ≡ Some after) × NamesFade (lives new) before after

-- one after another

same_request : (entry : Entry) → request_of (without_request entry) ≡ None
same_request (Port rights) = refl
same_request (SendOnce port target) = refl
same_request Set = refl
same_request (Dead references) = refl

stands_without : (entry : Entry) (serial : ℕ) → StandsFor (without_request entry) serial → StandsFor entry serial
stands_without (Port rights) serial stands = stands
stands_without (SendOnce port target) serial stands = stands
stands_without Set serial stands = stands
stands_without (Dead references) serial stands = stands

not_some : (target : ℕ) → None ≡ Some target → ⊥
not_some target e = cc e

fades_on : (live : ℕ → Bool) (before mid after : Entry) → Fades live before mid → Fades live mid after
    → Fades live before after
fades_on live before mid after (inl same) later = subst (λ (e : Entry). Fades live e after) same later
fades_on live before mid after (inr first) (inl same) =
    subst (λ (e : Entry). Fades live before e) (sym same) (inr first)
fades_on live before mid after (inr (inl first)) (inr (inl second)) =
    absurd (subst (λ (e : Entry). StandsFor e second.0) first.4 second.1)
fades_on live before mid after (inr (inl first)) (inr (inr second)) =
    absurd (not_some second.0 (ap request_of (sym first.4) ∙ second.1))
fades_on live before mid after (inr (inr first)) (inr (inl second)) =
    inr (inl (
      second.0,
      stands_without before second.0 (subst (λ (e : Entry). StandsFor e second.0) first.3 second.1),
      second.2,
      second.3,
      second.4,
    ))
fades_on live before mid after (inr (inr first)) (inr (inr second)) =
    absurd (not_some second.0 (sym (same_request before) ∙ ap request_of (sym first.3) ∙ second.1))

-- ports that are dead stay dead
abbrev pub Fewer : (ℕ → Bool) → (ℕ → Bool) → Type 0
Fewer live later = (serial : ℕ) → live serial ≡ false → later serial ≡ false

fades_later : (live later : ℕ → Bool) (before after : Entry) → Fewer live later → Fades live before after
    → Fades later before after
fades_later live later before after fewer (inl same) = inl same
fades_later live later before after fewer (inr (inl turned)) =
    inr (inl (turned.0, turned.1, fewer turned.0 turned.2, turned.3, turned.4))
fades_later live later before after fewer (inr (inr waits)) =
    inr (inr (waits.0, waits.1, fewer waits.0 waits.2, waits.3))

fades_at_on : (live later : ℕ → Bool) (before mid after : Option Entry) → Fewer live later → FadesAt live before mid
    → FadesAt later mid after → FadesAt later before after
fades_at_on live later None mid after fewer first second =
    subst (λ (o : Option Entry). FadesAt later o after) first second
fades_at_on live later (Some entry) mid after fewer first second =
    let next : FadesAt later (Some first.0) after =
    subst (λ (o : Option Entry). FadesAt later o after) first.1 second in
    (next.0, next.1, fades_on later entry first.0 next.0 (fades_later live later entry first.0 fewer first.2) next.2)

pub space_fades_on : (old mid new : Ipc) (space : ℕ) → Fewer (lives mid) (lives new) → SpaceFades old mid space
    → SpaceFades mid new space → SpaceFades old new space
space_fades_on old mid new space fewer first second before there =
    let here = first before there in
    let next = second here.0 here.1 in (
      next.0,
      next.1,
      λ (name : ℕ). fades_at_on (lives mid) (lives new) (finmap.get before name) (finmap.get here.0 name)
          (finmap.get next.0 name) fewer (here.2 name) (next.2 name),
    )

-- one effect

pub with_port_spaces : (state : Ipc) (serial : ℕ) (change : PortState → PortState)
    → (with_port state serial change).spaces ≡ state.spaces
with_port_spaces state serial change =
    elim (finmap.get state.ports serial)
    as (λ (o : Option PortState). (elim o as (λ _. Ipc) [
      | None ↦ state
      | Some port ↦ record state
          { ports = finmap.insert state.ports serial (change port) }
    ]).spaces ≡ state.spaces) [
      | None ↦ refl
      | Some port ↦ refl
    ]

pub number_same : (m n : ℕ) → (m == n) ≡ true → m ≡ n
number_same m n e = eqb-true m n e

not_live : true ≡ false → ⊥
not_live e = cc e

pub number_decided : (m n : ℕ) → (m ≢ n) ⊎ (m ≡ n)
number_decided m n =
    elim (eqb_tells m n) as (λ _. (m ≢ n) ⊎ (m ≡ n)) [ inl same ↦ inr same.1 | inr apart ↦ inl apart.1 ]

left_dead : (ports : finmap.FinMap nat_cmp PortState) (serial other : ℕ) → is_some (finmap.get ports other) ≡ false
    → is_some (finmap.get (finmap.remove ports serial) other) ≡ false
left_dead ports serial other dead =
    elim (number_decided other serial) as (λ _. is_some (finmap.get (finmap.remove ports serial) other) ≡ false) [
      | inl apart ↦ ap is_some (get-left ports serial other apart) ∙ dead
      | inr same ↦ ap (λ (k : ℕ). is_some (finmap.get (finmap.remove ports serial) k)) same
          ∙ ap is_some (get-gone ports serial)
    ]

-- a dead port stays dead when another one changes
lives_insert : (ports : finmap.FinMap nat_cmp PortState) (serial other : ℕ) (port changed : PortState)
    → finmap.get ports serial ≡ Some port → is_some (finmap.get ports other) ≡ false
    → is_some (finmap.get (finmap.insert ports serial changed) other) ≡ false
lives_insert ports serial other port changed there dead =
    ap is_some (get-there ports serial changed other
    (λ (e : _). not_live (ap is_some (sym there) ∙ ap (λ (k : ℕ). is_some (finmap.get ports k)) (sym e) ∙ dead)))
    ∙ dead

pub with_port_lives : (state : Ipc) (serial : ℕ) (change : PortState → PortState)
    → Fewer (lives state) (lives (with_port state serial change))
with_port_lives state serial change other dead =
    elim (finmap.get state.ports serial) as (λ (o : Option PortState). finmap.get state.ports serial ≡ o
    → lives (elim o as (λ _. Ipc)
    [ None ↦ state | Some port ↦ record state { ports = finmap.insert state.ports serial (change port) } ]) other
    ≡ false) [
      | None ↦ λ (none : _). dead
      | Some port ↦ λ (there : _). lives_insert state.ports serial other port (change port) there dead
    ] refl

lives_mapped : (change : PortState → PortState) (o : Option PortState) → is_some o ≡ false
    → is_some (option_map change o) ≡ false
lives_mapped change None dead = refl
lives_mapped change (Some port) dead = dead

after_death_lives : (state : Ipc) (serial : ℕ) → Fewer (lives state) (lives (after_death state serial))
after_death_lives state serial other dead =
    ap is_some (get-map_values (port_after_death serial) (finmap.remove state.ports serial) other)
    ∙ lives_mapped (port_after_death serial) (finmap.get (finmap.remove state.ports serial) other)
    (left_dead state.ports serial other dead)

pub after_death_dead : (state : Ipc) (serial : ℕ) → lives (after_death state serial) serial ≡ false
after_death_dead state serial =
    ap is_some (get-map_values (port_after_death serial) (finmap.remove state.ports serial) serial
    ∙ ap (option_map (port_after_death serial)) (get-gone state.ports serial))

-- what a death makes of an entry
target_fades : (live : ℕ → Bool) (serial : ℕ) (before after : Entry) (target : Option ℕ) → live serial ≡ false
    → request_of before ≡ target
    → (without_target serial target ≡ target → after ≡ before)
    → (without_target serial target ≡ None → after ≡ without_request before) → Fades live before after
target_fades live serial before after None dead is same gone = inl (same refl)
target_fades live serial before after (Some target) dead is same gone =
    elim (target == serial) as (λ (b : Bool). (target == serial) ≡ b
    → ((if b then None else Some target) ≡ Some target → after ≡ before)
    → ((if b then None else Some target) ≡ None → after ≡ without_request before) → Fades live before after) [
      | true ↦ λ (e : _) (same : _) (gone : _). inr
          (inr (target, is, ap live (number_same target serial e) ∙ dead, gone refl))
      | false ↦ λ (e : _) (same : _) (gone : _). inl (same refl)
    ] refl same gone

entry_fades : (live : ℕ → Bool) (serial : ℕ) (entry : Entry) → live serial ≡ false
    → Fades live entry (entry_after_death serial entry)
entry_fades live serial (Port rights) dead =
    elim (rights.port == serial) as (λ (b : Bool). (rights.port == serial) ≡ b → Fades live (Port rights)
    (if b then Dead (rights.send + one_more_if rights.dead_name_target)
    else Port (record rights { dead_name_target = without_target serial rights.dead_name_target }))) [
      | true ↦ λ (e : _). inr (inl (
        rights.port,
        refl,
        ap live (number_same rights.port serial e) ∙ dead,
        rights.send + one_more_if rights.dead_name_target,
        refl,
      ))
      | false ↦ λ (e : _). target_fades live serial (Port rights) _ rights.dead_name_target dead refl
          (λ (same : _). ap (λ (t : Option ℕ). Port (record rights { dead_name_target = t })) same)
          (λ (gone : _). ap (λ (t : Option ℕ). Port (record rights { dead_name_target = t })) gone)
    ] refl
entry_fades live serial (SendOnce port target) dead =
    elim (port == serial) as (λ (b : Bool). (port == serial) ≡ b
    → Fades live (SendOnce port target)
    (if b then Dead (1 + one_more_if target) else SendOnce port (without_target serial target))) [
      | true ↦ λ (e : _). inr (inl (
        port,
        refl,
        ap live (number_same port serial e) ∙ dead,
        1 + one_more_if target,
        refl,
      ))
      | false ↦ λ (e : _). target_fades live serial (SendOnce port target) _ target dead refl
          (λ (same : _). ap (SendOnce port) same) (λ (gone : _). ap (SendOnce port) gone)
    ] refl
entry_fades live serial Set dead = inl refl
entry_fades live serial (Dead references) dead = inl refl

entry_at_fades : (live : ℕ → Bool) (serial : ℕ) (o : Option Entry) → live serial ≡ false
    → FadesAt live o (option_map (entry_after_death serial) o)
entry_at_fades live serial None dead = refl
entry_at_fades live serial (Some entry) dead =
    (entry_after_death serial entry, refl, entry_fades live serial entry dead)

death_fades : (state : Ipc) (serial space : ℕ) → SpaceFades state (after_death state serial) space
death_fades state serial space before there = (
  map_values (entry_after_death serial) before,
  get-map_values (map_values (entry_after_death serial)) state.spaces space
      ∙ ap (option_map (map_values (entry_after_death serial))) there,
  λ (name : ℕ). subst (λ (o : Option Entry). FadesAt (lives (after_death state serial)) (finmap.get before name) o)
      (sym (get-map_values (entry_after_death serial) before name))
      (entry_at_fades (lives (after_death state serial)) serial (finmap.get before name)
      (after_death_dead state serial)),
)

-- nothing fades where the spaces stay
pub same_at : (live : ℕ → Bool) (o : Option Entry) → FadesAt live o o
same_at live None = refl
same_at live (Some entry) = (entry, refl, inl refl)

spaces_stay : (old new : Ipc) (space : ℕ) → new.spaces ≡ old.spaces → SpaceFades old new space
spaces_stay old new space same before there = (
  before,
  ap (λ (s : finmap.FinMap nat_cmp Names). finmap.get s space) same ∙ there,
  λ (name : ℕ). same_at (lives new) (finmap.get before name),
)

-- What one effect does to spaces and live ports: both stay, or a port dies.
pub record Passing (old new : Ipc) : Type 0 where
  pub fewer : Fewer (lives old) (lives new)
  pub fades : (space : ℕ) → SpaceFades old new space
  pub absent : (space : ℕ) → finmap.get old.spaces space ≡ None → finmap.get new.spaces space ≡ None

passing_on : (old mid new : Ipc) → Passing old mid → Passing mid new → Passing old new
passing_on old mid new first second = record {
  fewer = λ (serial : ℕ) (dead : _). second.fewer serial (first.fewer serial dead);
  fades = λ (space : ℕ). space_fades_on old mid new space second.fewer (first.fades space) (second.fades space);
  absent = λ (space : ℕ) (none : _). second.absent space (first.absent space none);
}

nothing_passes : (state : Ipc) → Passing state state
nothing_passes state =
    record {
      fewer = λ (serial : ℕ) (dead : _). dead;
      fades = λ (space : ℕ). spaces_stay state state space refl;
      absent = λ (space : ℕ) (none : _). none;
    }

port_changes : (state : Ipc) (serial : ℕ) (change : PortState → PortState)
    → Passing state (with_port state serial change)
port_changes state serial change = record {
  fewer = with_port_lives state serial change;
  fades = λ (space : ℕ). spaces_stay state (with_port state serial change) space (with_port_spaces state serial change);
  absent =
      λ (space : ℕ) (none : _). ap (λ (s : finmap.FinMap nat_cmp Names). finmap.get s space)
      (with_port_spaces state serial change) ∙ none;
}

port_dies : (state : Ipc) (serial : ℕ) → Passing state (after_death state serial)
port_dies state serial =
    record {
      fewer = after_death_lives state serial;
      fades = λ (space : ℕ). death_fades state serial space;
      absent = λ (space : ℕ) (none : _). get-map_values (map_values (entry_after_death serial)) state.spaces space
          ∙ ap (option_map (map_values (entry_after_death serial))) none;
    }

notice_goes : (state : Ipc) (target : ℕ) (what : Notice) → Passing state (notified state target what)
notice_goes state target what =
    port_changes state target
    (λ (port : PortState). record port { messages = port.messages ++ notice_message what ∷ [] })

no_senders_passes : (state : Ipc) (serial : ℕ) (port : PortState) (target : Option ℕ)
    → Passing state (notified_no_senders state serial port target)
no_senders_passes state serial port None = nothing_passes state
no_senders_passes state serial port (Some target) =
    passing_on _ _ _ (port_changes state serial _) (notice_goes _ target (notice.NoSenders port.make_send_count))

choose : (old one other : Ipc) (b : Bool) → Passing old one → Passing old other
    → Passing old (if b then one else other)
choose old one other true first second = first
choose old one other false first second = second

choose_outcome : (old : Ipc) (one other : Ipc × List Effect) (b : Bool) → Passing old one.0 → Passing old other.0
    → Passing old (if b then one else other).0
choose_outcome old one other true first second = first
choose_outcome old one other false first second = second

receive_passes : (state : Ipc) (serial : ℕ) (port : PortState) (target : Option ℕ)
    → Passing state (receive_released_to state serial port target).0
receive_passes state serial port None = port_dies state serial
receive_passes state serial port (Some target) =
    choose_outcome state (sent_to_target state serial target, []) (died state serial port)
    (lives state target && not (is_circular state serial target))
    (passing_on _ _ _ (port_changes state serial _) (notice_goes _ target (notice.PortDestroyed serial)))
    (port_dies state serial)

release_passes : (state : Ipc) (serial : ℕ) (port : PortState) (kind : RightKind)
    → Passing state (released state serial port kind).0
release_passes state serial port kind.Send =
    choose state (notified_no_senders state serial port port.no_senders_target) state (send_count state serial == 0)
    (no_senders_passes state serial port port.no_senders_target) (nothing_passes state)
release_passes state serial port kind.SendOnce = notice_goes state serial notice.SendOnce
release_passes state serial port kind.Receive = receive_passes state serial port port.port_destroyed_target

live_passes : (state : Ipc) (serial : ℕ) (kind : RightKind) (o : Option PortState)
    → Passing state (released_if_live state serial kind o).0
live_passes state serial kind None = nothing_passes state
live_passes state serial kind (Some port) = release_passes state serial port kind

pub effect_passes : (state : Ipc) (first : Effect) → Passing state (effect state first).0
unfolding effect
effect_passes state (release kind serial) = live_passes state serial kind (finmap.get state.ports serial)
effect_passes state (notify target what) = notice_goes state target what

pub settling_passes : (state : Ipc) (effects : List Effect) (end : Ipc) → Settles state effects end
    → Passing state end
settling_passes state [] end settled = nothing_passes state
settling_passes state (first ∷ rest) end (next_effect later) =
    passing_on state _ end (effect_passes state first) (settling_passes _ _ end later)
