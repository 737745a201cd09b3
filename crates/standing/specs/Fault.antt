-- Document 01, the numbers of faults: each is given where the code names it. What they are given for is said in specs/Faults.antt and, of 1 and 12, in
-- jobfile's specs/File.antt; 13 is the unit's, where the answer is longer than the buffer.
use Rattle.std.specs.Prelude.{ℕ, Result, Ok, Err}
use Rattle.standing.specs.declared.fault.Fault.{Fault}
use Rattle.standing.specs.declared.fault.Fault.TheVariants.{TooLong, NotSpelled, OutOfRange, OutOfTurn, HeadDisagrees, OutsideLayout, NoSuchTile, TooManyShapes, SharedSquare, FilledTwice, NoRoom, NoEnd, ShortBuffer}

abbrev pub fault_number : Fault → ℕ
fault_number TooLong = 1
fault_number NotSpelled = 2
fault_number OutOfRange = 3
fault_number OutOfTurn = 4
fault_number HeadDisagrees = 5
fault_number OutsideLayout = 6
fault_number NoSuchTile = 7
fault_number TooManyShapes = 8
fault_number SharedSquare = 9
fault_number FilledTwice = 10
fault_number NoRoom = 11
fault_number NoEnd = 12
fault_number ShortBuffer = 13

-- the number of a fault that a test found, 0 for none
abbrev pub fault_code : {A : Type 0} → Result A Fault → ℕ
fault_code (Ok a) = 0
fault_code (Err f) = fault_number f
