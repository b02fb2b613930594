-- The image in a slot, after its header's epoch, and the images that a version allows.
use Rattle.std.specs.Prelude.{◌≡◌, ℕ, ◌^◌, ◌<◌, List, ◌++◌, length, drop}
use Rattle.codes.specs.declared.store_version.StoreVersion.{StoreVersion}
use Rattle.ipc_model.specs.state.State.{State}
use Rattle.ipc_model.specs.store.Recovery.{HoldsImage, IsOfEpoch}
use Rattle.ipc_model.specs.store.Store.{IsLimitOf}
use Rattle.snapshot.specs.declared.rows.LivePort.{LivePort}
use Rattle.words.specs.Words.{long_word}

-- After sixteen bytes, which are a gate, a version and an epoch, the slot holds the length of these bytes, then the
-- bytes.
pub record HoldsEncoding (slot encoding : List ℕ) : Type 0 where
  pub rest : List ℕ
  pub fits : length encoding < 2 ^ 64
  pub beyond : drop 16 slot ≡ long_word (length encoding) ++ (encoding ++ rest)

-- the limit of a port's queue is allowed in this version
abbrev pub HasLimit : StoreVersion → LivePort → Type 0
HasLimit version port = IsLimitOf version port.state.limit

-- if the slot has an epoch, it holds the image of this state
abbrev pub HoldsImageOf : List ℕ → State → Type 0
HoldsImageOf slot state = (number epoch : ℕ) → IsOfEpoch number epoch slot → HoldsImage epoch slot state

-- the slot holds no image
abbrev pub HoldsNoImage : List ℕ → Type 0
HoldsNoImage slot = (epoch : ℕ) (state : State) → HoldsImage epoch slot state → ⊥
