-- Little-endian numbers, for crates that use no other library for them.
pub use Rattle.byteorder.specs.Endian.{little_bytes, little_number}
pub use Rattle.byteorder.specs.Numbers.{little_from-lt, little_number-reads_back}
