-- Rows of results as bytes.
use Rattle.std.specs.Prelude.{ℕ, List, ◌++◌, flat_map}
use Rattle.ipc_model.specs.declared.plain_reply.NamedType.{NamedType}
use Rattle.words.specs.Words.{word}

-- the encoding of names with their type bits
abbrev pub names_encoding : List NamedType → List ℕ
names_encoding names = flat_map (λ (n : NamedType). word n.name ++ word n.bits) names
