-- Meaning. The want of memory.
use Rattle.out_of_memory.specs.declared.NoMemory.{NoMemory}

-- the one value of its type
abbrev pub no_memory : NoMemory
no_memory = record {}
