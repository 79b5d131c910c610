-- `build::Found::deed` meets its contract. Assumes nothing.
use Rattle.std.proofs.Common.{rules}
use Rattle.build.proofs.Deeds.{steps, few, stored, does}
use Rattle.build.proofs.Found.deed.Goals as goal

pub unwrap-k-requires : goal.unwrap-k-requires
unwrap-k-requires c = steps c.requires.sound c.requires.stands (search rules) _ c.next_of.ensures

pub unwrap-j-requires : goal.unwrap-j-requires
unwrap-j-requires c = stored c.requires.sound c.requires.stands (search rules) _ c.next_of.ensures c.unwrap-k.ensures _ c.place.ensures

pub commands_of-requires : goal.commands_of-requires
commands_of-requires c = few c.requires.sound c.requires.stands (search rules) _ c.next_of.ensures c.unwrap-k.ensures

pub returns : goal.returns
returns c = does c.requires.sound c.requires.stands (search rules) _ c.next_of.ensures c.unwrap-k.ensures _ c.place.ensures c.unwrap-j.ensures c.commands_of.ensures
