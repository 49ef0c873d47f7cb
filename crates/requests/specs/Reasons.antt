-- The reason of a fault in words, if more is known than its line says. It is a second line if that is requested.
use Rattle.std.specs.Prelude.{ℕ, List, [], ◌∷◌, ◌++◌, Option, Some, None, codes}
use Rattle.std.specs.Borrow.{Bor}
use Rattle.std.specs.List.{concat}
use Rattle.std.specs.Fmt.{decimal}
use Rattle.units.specs.declared.unread.Unread.{Unread}
use Rattle.units.specs.declared.unread.Unread.TheVariants.{Missing, Forbidden, Folder, TooLarge, Other}
use Rattle.bidtests.specs.declared.verdict.Cause.{Cause}
use Rattle.bidtests.specs.declared.verdict.Cause.TheVariants as malformed
use Rattle.printing.specs.LevelsText.{line_feed}
use Rattle.printing.specs.declared.place.TextPlace.{TextPlace}
use Rattle.requests.specs.declared.request.FileKind.{FileKind}
use Rattle.requests.specs.declared.request.FileKind.TheVariants.{Classes, Characters}
use Rattle.requests.specs.declared.fault.Fault.{Fault}
use Rattle.requests.specs.declared.fault.Fault.TheVariants.{ClassesTooLong, CodesTooLong, NoClass, NoCodePoint, NoLengths, NoDirection, CannotRead, FaultyLine, NotUtf8, LongLine, MalformedLine}

-- why a file of at most so many bytes can't be read
abbrev pub unread_words : Unread → ℕ → List ℕ
unread_words Missing most = codes "no such file"
unread_words Forbidden most = codes "permission denied"
unread_words Folder most = codes "a folder"
unread_words TooLarge most = concat (codes "more than " ∷ decimal most ∷ codes " bytes" ∷ [])
unread_words Other most = codes "unknown"

-- the folder of the tables if the file is one of them
abbrev pub folder_words : Option (Bor (List ℕ)) → List ℕ
folder_words None = []
folder_words (Some folder) = codes ", folder of tables " ++ folder.now

-- the place after which a text is not UTF-8: the line, counted from 1, and the number of bytes before it
abbrev pub place_words : TextPlace → List ℕ
place_words place = concat (codes "line " ∷ decimal place.line ∷ codes ", byte offset " ∷ decimal place.offset ∷ [])

-- the value that has the item, and the allowed items
abbrev pub item_words : List ℕ → List ℕ → List ℕ
item_words word allowed = concat (codes "in '" ∷ word ∷ codes "', allowed: " ∷ allowed ∷ [])

abbrev pub class_items : List ℕ
class_items = codes "L R AL EN ES ET AN CS NSM BN B S WS ON LRE LRO RLE RLO PDF LRI RLI FSI PDI"

abbrev pub code_point_items : List ℕ
code_point_items = codes "4 to 6 upper-case hex digits, at most 10FFFF, no surrogate"

abbrev pub direction_items : List ℕ
direction_items = codes "auto ltr rtl auto-rtl"

abbrev pub length_items : List ℕ
length_items = codes "allowed: N or A..B, 1 to 4095, without leading zeros"

-- the part of a line that is malformed for this cause, in a conformance file of this kind; fields are counted from 0
abbrev pub field_words : FileKind → Cause → List ℕ
field_words kind malformed.LineTooLong = codes "the line, more than 65536 bytes"
field_words Classes malformed.FieldCount = codes "the number of fields, allowed: 2"
field_words Characters malformed.FieldCount = codes "the number of fields, allowed: 5"
field_words kind malformed.Directive = codes "the directive"
field_words kind malformed.NoExpectation = codes "the row, without a line @Levels: or @Reorder: before it"
field_words Classes malformed.EmptyRow = codes "field 0, the classes"
field_words Characters malformed.EmptyRow = codes "field 0, the code points"
field_words kind malformed.ClassItem = codes "field 0, the classes"
field_words kind malformed.BitSet = codes "field 1, the bit set"
field_words kind malformed.CodePoint = codes "field 0, the code points"
field_words kind malformed.DirectionField = codes "field 1, the direction"
field_words kind malformed.ParaField = codes "field 2, the paragraph level"
field_words Classes malformed.LevelItem = codes "@Levels:"
field_words Characters malformed.LevelItem = codes "field 3, the levels"
field_words Classes malformed.OrderItem = codes "@Reorder:"
field_words Characters malformed.OrderItem = codes "field 4, the order"

-- the reason of a fault, if more is known than its line says
abbrev pub reason_of : Fault → Option (List ℕ)
reason_of ClassesTooLong = Some (codes "more than 16777216 bytes")
reason_of CodesTooLong = Some (codes "more than 16777216 bytes")
reason_of (NoClass word item) = Some (item_words word.now class_items)
reason_of (NoCodePoint word item) = Some (item_words word.now code_point_items)
reason_of (NoDirection word item) = Some (item_words word.now direction_items)
reason_of (NoLengths word) = Some length_items
reason_of (CannotRead name folder most unread written) = Some (unread_words unread most ++ folder_words folder)
reason_of (FaultyLine name folder line fault) = Some (codes "the folder of tables is " ++ folder.now)
reason_of (NotUtf8 name place written) = Some (place_words place)
reason_of (LongLine name line) = Some (codes "more than 4095 characters")
reason_of (MalformedLine name kind line cause) = Some (field_words kind cause)
reason_of _ = None

-- the line that says this reason, if there is one
abbrev pub reason_line : Option (List ℕ) → List ℕ
reason_line None = []
reason_line (Some reason) = codes "bidi: reason: " ++ reason ++ line_feed
