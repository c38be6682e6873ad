-- Which text a word asks for.
use Rattle.std.specs.Prelude.{ℕ, ◌||◌, Bool, List, None, Option, Some, find, map, option_map, bytes_eq}
use Rattle.std.specs.Borrow.{Bor}
use Rattle.sa_texts.specs.declared.errors.part_0.TheConstants.{ERRORS_0}
use Rattle.sa_texts.specs.declared.errors.part_1.TheConstants.{ERRORS_1}
use Rattle.sa_texts.specs.declared.errors.part_2.TheConstants.{ERRORS_2}
use Rattle.sa_texts.specs.declared.errors.part_3.TheConstants.{ERRORS_3}
use Rattle.sa_texts.specs.declared.errors.part_4.TheConstants.{ERRORS_4}
use Rattle.sa_texts.specs.declared.errors.part_5.TheConstants.{ERRORS_5}
use Rattle.sa_texts.specs.declared.errors.part_6.TheConstants.{ERRORS_6}
use Rattle.sa_texts.specs.declared.errors.part_7.TheConstants.{ERRORS_7}
use Rattle.sa_texts.specs.declared.errors.part_8.TheConstants.{ERRORS_8}
use Rattle.sa_texts.specs.declared.errors.part_9.TheConstants.{ERRORS_9}
use Rattle.sa_texts.specs.declared.errors.part_10.TheConstants.{ERRORS_10}
use Rattle.sa_texts.specs.declared.errors.part_11.TheConstants.{ERRORS_11}
use Rattle.sa_texts.specs.declared.library.TheConstants.{LISTED}
use Rattle.sa_texts.specs.declared.library.part_0.TheConstants.{FILES_0}
use Rattle.sa_texts.specs.declared.library.part_1.TheConstants.{FILES_1}
use Rattle.sa_texts.specs.declared.library.part_2.TheConstants.{FILES_2}
use Rattle.sa_texts.specs.declared.library.part_3.TheConstants.{FILES_3}
use Rattle.sa_texts.specs.declared.library.part_4.TheConstants.{FILES_4}
use Rattle.sa_texts.specs.declared.library.part_5.TheConstants.{FILES_5}
use Rattle.sa_texts.specs.declared.library.part_6.TheConstants.{FILES_6}
use Rattle.sa_texts.specs.declared.library.part_7.TheConstants.{FILES_7}
use Rattle.sa_texts.specs.declared.library.part_8.TheConstants.{FILES_8}
use Rattle.sa_texts.specs.declared.library.part_9.TheConstants.{FILES_9}
use Rattle.sa_texts.specs.declared.library.part_10.TheConstants.{FILES_10}
use Rattle.sa_texts.specs.declared.library.part_11.TheConstants.{FILES_11}

abbrev pub Text : Type 0
Text = List ℕ

-- three words, and the text that each of them asks for
abbrev pub Row : Type 0
Row = Text × Text × Text × Text

-- the texts of a row of references
abbrev pub seen_row : Bor Text × Bor Text × Bor Text × Bor Text → Row
seen_row row = (row.0.now, row.1.now, row.2.now, row.3.now)

-- the word is one of the row's
abbrev pub asks : Text → Row → Bool
asks word row = bytes_eq word row.0 || (bytes_eq word row.1 || bytes_eq word row.2)

-- the text of the first row that has this word
abbrev pub asked_row : Text → List Row → Option Text
asked_row word table = option_map (λ row. row.3) (find (asks word) table)

-- the sections of docs/ERRORS.md, in parts
unfoldable pub errors_0 : List Row
errors_0 = map (λ row. (row.0.now, row.1.now, row.2.now, row.3.now)) ERRORS_0

unfoldable pub errors_1 : List Row
errors_1 = map (λ row. (row.0.now, row.1.now, row.2.now, row.3.now)) ERRORS_1

unfoldable pub errors_2 : List Row
errors_2 = map (λ row. (row.0.now, row.1.now, row.2.now, row.3.now)) ERRORS_2

unfoldable pub errors_3 : List Row
errors_3 = map (λ row. (row.0.now, row.1.now, row.2.now, row.3.now)) ERRORS_3

unfoldable pub errors_4 : List Row
errors_4 = map (λ row. (row.0.now, row.1.now, row.2.now, row.3.now)) ERRORS_4

unfoldable pub errors_5 : List Row
errors_5 = map (λ row. (row.0.now, row.1.now, row.2.now, row.3.now)) ERRORS_5

unfoldable pub errors_6 : List Row
errors_6 = map (λ row. (row.0.now, row.1.now, row.2.now, row.3.now)) ERRORS_6

unfoldable pub errors_7 : List Row
errors_7 = map (λ row. (row.0.now, row.1.now, row.2.now, row.3.now)) ERRORS_7

unfoldable pub errors_8 : List Row
errors_8 = map (λ row. (row.0.now, row.1.now, row.2.now, row.3.now)) ERRORS_8

unfoldable pub errors_9 : List Row
errors_9 = map (λ row. (row.0.now, row.1.now, row.2.now, row.3.now)) ERRORS_9

unfoldable pub errors_10 : List Row
errors_10 = map (λ row. (row.0.now, row.1.now, row.2.now, row.3.now)) ERRORS_10

unfoldable pub errors_11 : List Row
errors_11 = map (λ row. (row.0.now, row.1.now, row.2.now, row.3.now)) ERRORS_11

-- the files of lib/, in parts
unfoldable pub files_0 : List Row
files_0 = map (λ row. (row.0.now, row.1.now, row.2.now, row.3.now)) FILES_0

unfoldable pub files_1 : List Row
files_1 = map (λ row. (row.0.now, row.1.now, row.2.now, row.3.now)) FILES_1

unfoldable pub files_2 : List Row
files_2 = map (λ row. (row.0.now, row.1.now, row.2.now, row.3.now)) FILES_2

unfoldable pub files_3 : List Row
files_3 = map (λ row. (row.0.now, row.1.now, row.2.now, row.3.now)) FILES_3

unfoldable pub files_4 : List Row
files_4 = map (λ row. (row.0.now, row.1.now, row.2.now, row.3.now)) FILES_4

unfoldable pub files_5 : List Row
files_5 = map (λ row. (row.0.now, row.1.now, row.2.now, row.3.now)) FILES_5

unfoldable pub files_6 : List Row
files_6 = map (λ row. (row.0.now, row.1.now, row.2.now, row.3.now)) FILES_6

unfoldable pub files_7 : List Row
files_7 = map (λ row. (row.0.now, row.1.now, row.2.now, row.3.now)) FILES_7

unfoldable pub files_8 : List Row
files_8 = map (λ row. (row.0.now, row.1.now, row.2.now, row.3.now)) FILES_8

unfoldable pub files_9 : List Row
files_9 = map (λ row. (row.0.now, row.1.now, row.2.now, row.3.now)) FILES_9

unfoldable pub files_10 : List Row
files_10 = map (λ row. (row.0.now, row.1.now, row.2.now, row.3.now)) FILES_10

unfoldable pub files_11 : List Row
files_11 = map (λ row. (row.0.now, row.1.now, row.2.now, row.3.now)) FILES_11

-- the first text, or the second where there is no first
abbrev pub before : Option Text → Option Text → Option Text
before (Some text) second = Some text
before None second = second

-- the page that explains a code, or the text of a line
abbrev pub error_page : Text → Option Text
error_page word =
    before (asked_row word errors_0)
    (before (asked_row word errors_1)
    (before (asked_row word errors_2)
    (before (asked_row word errors_3)
    (before (asked_row word errors_4)
    (before (asked_row word errors_5)
    (before (asked_row word errors_6)
    (before (asked_row word errors_7)
    (before (asked_row word errors_8)
    (before (asked_row word errors_9)
    (before (asked_row word errors_10)
    (asked_row word errors_11)))))))))))

-- the file of the library with this name
abbrev pub library_file : Text → Option Text
library_file name =
    before (asked_row name files_0)
    (before (asked_row name files_1)
    (before (asked_row name files_2)
    (before (asked_row name files_3)
    (before (asked_row name files_4)
    (before (asked_row name files_5)
    (before (asked_row name files_6)
    (before (asked_row name files_7)
    (before (asked_row name files_8)
    (before (asked_row name files_9)
    (before (asked_row name files_10)
    (asked_row name files_11)))))))))))

-- the list of the files of the library
unfoldable pub library_list : Text
library_list = LISTED.now
