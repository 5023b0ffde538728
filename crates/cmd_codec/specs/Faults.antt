-- What the fault of a name or task id makes of the reading.
use Rattle.seg_names.specs.declared.name.NameFault.{NameFault}
use Rattle.seg_names.specs.declared.name.NameFault.TheVariants as name
use Rattle.cmd_codec.specs.declared.fault.ReadFault.{ReadFault}
use Rattle.cmd_codec.specs.declared.fault.ReadFault.TheVariants.{Bad, OutOfMemory}

-- bytes that are no name don't read; want of memory stays want of memory
abbrev pub fault_of_name : NameFault → ReadFault
fault_of_name name.BadName = Bad
fault_of_name name.OutOfMemory = OutOfMemory
