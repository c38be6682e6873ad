-- The text of the generated program: a line for each class, and one for MAIN.
use Rattle.std.specs.Prelude.{ℕ, zero, suc, ◌-◌, List, [], ◌++◌, codes, decimal}

-- the line of the first class, whose iter gives the numbers from 1 to its argument
abbrev pub first : List ℕ
first = codes "class C0 is it!(once n:INT):INT is loop yield 1.upto!(n); end; end; end;\n"

-- the text after the name of a class whose iter calls that of the class with this number
abbrev pub call : ℕ → List ℕ
call before = codes " is it!(once n:INT):INT is loop yield C" ++ decimal before ++ codes "::it!(n) + 1; end; end; end;\n"

-- the line of the class after the one with this number, whose iter gives one more than that one's
abbrev pub link : ℕ → List ℕ
link before = codes "class C" ++ decimal (suc before) ++ call before

-- the lines of so many classes after the first one
abbrev pub links : ℕ → List ℕ
links zero = []
links (suc before) = links before ++ link before

-- the line of MAIN, which adds what the iter of the class with this number gives for 3, and prints the sum
abbrev pub main : ℕ → List ℕ
main last = codes "class MAIN is main is s ::= 0; loop s := s + C" ++ decimal last ++ codes "::it!(3); end; #OUT + s + \"\\n\"; end; end;\n"

-- the text of the program of n classes, from C0 on
abbrev pub generated : ℕ → List ℕ
generated n = first ++ links (n - 1) ++ main (n - 1)
