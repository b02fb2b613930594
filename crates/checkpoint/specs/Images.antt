-- An image while it is written to its slot.
use Rattle.std.specs.Prelude.{◌≡◌, ◌⊎◌, ℕ, ◌+◌, ◌*◌, List, ◌∷◌, ◌++◌, length, take, refl}
use Rattle.std.specs.Coded.{Coded, code_by, coded×, coded_ℕ, coded_list}
use Rattle.ipc_model.specs.store.Store.{IsClosed, open_gate, image_content}
use Rattle.ipc_model.specs.world.World.{piece_length}

-- an epoch's image: its encoding, and the number of pieces that were written
pub record ImageValue : Type 0 where
  pub epoch : ℕ
  pub encoding : List ℕ
  pub written : ℕ

abbrev pub image_code : Coded ImageValue
image_code =
    code_by (ℕ × (List ℕ × ℕ)) (coded× coded_ℕ (coded× (coded_list coded_ℕ) coded_ℕ))
    (λ i. (i.epoch, (i.encoding, i.written))) (λ p. record { epoch = p.0; encoding = p.1.0; written = p.1.1 })
    (λ _. refl)

-- an image without written pieces
abbrev pub unwritten : ℕ → List ℕ → ImageValue
unwritten epoch encoding = record { epoch = epoch; encoding = encoding; written = 0 }

abbrev pub one_more : ImageValue → ImageValue
one_more image = record image { written = image.written + 1 }

-- A slot holds these bytes after 24 bytes, the length of a header, which begin with a closed gate.
pub record HoldsAfter (slot encoding : List ℕ) : Type 0 where
  pub head : List ℕ
  pub long : length head ≡ 24
  pub shut : IsClosed head
  pub whole : slot ≡ head ++ encoding

-- the first `count` pieces of an encoding
abbrev pub first_pieces : ℕ → List ℕ → List ℕ
first_pieces count encoding = take (piece_length * count) encoding

-- a slot with the whole open image of an epoch
abbrev pub open_image : ℕ → List ℕ → List ℕ
open_image epoch encoding = open_gate ∷ image_content epoch encoding

-- The slot of an image that is being finished: its gate is closed, or it holds the whole open image.
abbrev pub IsFinishing : ℕ → List ℕ → List ℕ → List ℕ → Type 0
IsFinishing epoch encoding before after = IsClosed after ⊎ (after ≡ open_image epoch encoding)
