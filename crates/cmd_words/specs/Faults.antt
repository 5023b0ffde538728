-- What the fault of a name, a task id or a segment id makes of the line.
use Rattle.seg_names.specs.declared.name.NameFault.{NameFault}
use Rattle.seg_names.specs.declared.name.NameFault.TheVariants as name
use Rattle.seg_names.specs.declared.seg_id.SegFault.{SegFault}
use Rattle.seg_names.specs.declared.seg_id.SegFault.TheVariants as id
use Rattle.cmd_words.specs.declared.fault.LineFault.{LineFault}
use Rattle.cmd_words.specs.declared.fault.LineFault.TheVariants.{BadCommand, OutOfMemory}

-- a text that is no name makes the line no command; want of memory stays want of memory
abbrev pub fault_of_name : NameFault → LineFault
fault_of_name name.BadName = BadCommand
fault_of_name name.OutOfMemory = OutOfMemory

-- the same of a text that is no id
abbrev pub fault_of_id : SegFault → LineFault
fault_of_id id.BadSegId = BadCommand
fault_of_id id.OutOfMemory = OutOfMemory
