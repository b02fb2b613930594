-- The fronts that were read, as slots.
use Rattle.disk.specs.Slots.{Slots}
use Rattle.inspect.specs.declared.still_disk.fronts.Fronts.{Fronts}

abbrev pub front_slots : Fronts → Slots
front_slots fronts = record {
  image0 = fronts.image0.items;
  image1 = fronts.image1.items;
  segment0 = fronts.segment0.items;
  segment1 = fronts.segment1.items;
}
