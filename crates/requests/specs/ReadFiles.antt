-- What was read from standard input or from files, by name, and the tables that three files state.
use Rattle.std.specs.Prelude.{◌≡◌, ◌⊎◌, ℕ, ◌^◌, List, [], ◌∷◌, Option, None, Some, option_map, codes, if◌then◌else◌}
use Rattle.std.specs.Borrow.{Bor}
use Rattle.std.specs.List.{concat}
use Rattle.std.specs.Str.{bytes_eq}
use Rattle.units.specs.Provides.{Reading, Provides}
use Rattle.units.specs.declared.unread.Unread.{Unread}
use Rattle.ucdfiles.specs.ClassFile.{StatesClasses}
use Rattle.ucdfiles.specs.PairFiles.{StatesBrackets, StatesMirrors}
use Rattle.ucdfiles.specs.Tables.{TablesOf, class_by, bracket_by, mirror_by}

-- a source returned these bytes between two states
abbrev pub Gives : Reading → List ℕ → Reading → Type 0
Gives opened bytes now = Provides opened.remaining now.remaining opened.limit now.limit opened.state now.state bytes

-- where bytes come from: standard input, or the file of a name
pub data Origin : Type 0 where
  StandardInput : Origin
  FileNamed : List ℕ → Origin

-- what the argument FILE names: `-` standard input, and any other argument the file of that name
abbrev pub origin_of : List ℕ → Origin
origin_of word = if bytes_eq word (codes "-") then StandardInput else FileNamed word

-- a statement about an origin, the limit that it is read with, and bytes
abbrev pub OfOrigin : Type 1
OfOrigin = Origin → ℕ → List ℕ → Type 0

-- statements about origins: that one can't be opened with a limit, and why; that it begins with these bytes; that it
-- has them and no more; that a read after them fails, and why
pub record FileFacts : Type 1 where
  pub Rejects : Origin → ℕ → Unread → Type 0
  pub Begins : OfOrigin
  pub Holds : OfOrigin
  pub Fails : Origin → ℕ → List ℕ → Unread → Type 0

-- the most bytes that a conformance file or a table's file may have
abbrev pub most_file_bytes : ℕ
most_file_bytes = 2 ^ 40

-- a file that a fault names: its name, the folder of a table's file, and how many bytes it may have at most
pub record NamedFile : Type 0 where
  pub name : List ℕ
  pub folder : Option (List ℕ)
  pub most : ℕ

-- the file of this name, folder and limit
abbrev pub named_file : Bor (List ℕ) → Option (Bor (List ℕ)) → ℕ → NamedFile
named_file name folder most = record { name = name.now; folder = option_map (λ folder. folder.now) folder; most = most }

-- the file that the argument FILE names
abbrev pub word_file : ℕ → List ℕ → NamedFile
word_file most file = record { name = file; folder = None; most = most }

-- the table's file of this name in the folder
abbrev pub table_file : List ℕ → List ℕ → NamedFile
table_file folder name = record { name = name; folder = Some folder; most = most_file_bytes }

-- the names of the tables' files in their folder
abbrev pub class_name : List ℕ
class_name = codes "DerivedBidiClass.txt"

-- another name of the classes' file, relative to the folder in which Unicode publishes the other two
abbrev pub extracted_name : List ℕ
extracted_name = codes "extracted/DerivedBidiClass.txt"

abbrev pub bracket_name : List ℕ
bracket_name = codes "BidiBrackets.txt"

abbrev pub mirror_name : List ℕ
mirror_name = codes "BidiMirroring.txt"

-- a file of this name in the folder
abbrev pub in_folder : List ℕ → List ℕ → List ℕ
in_folder folder name = concat (folder ∷ codes "/" ∷ name ∷ [])

-- the file of this name in the folder can't be opened, for this reason
abbrev pub CannotOpen : FileFacts → List ℕ → List ℕ → Unread → Type 0
CannotOpen files folder name unread = files.Rejects (FileNamed (in_folder folder name)) most_file_bytes unread

-- this is the path of the classes' file: the one in the folder or, if that can't be opened, the one in its subfolder
-- `extracted`
abbrev pub IsClassPath : FileFacts → List ℕ → List ℕ → Type 0
IsClassPath files folder path =
    (path ≡ in_folder folder class_name)
    ⊎ ((unread : Unread) × CannotOpen files folder class_name unread × (path ≡ in_folder folder extracted_name))

-- the file of the classes was read whole, and its bytes state this
abbrev pub HoldsClasses : FileFacts → List ℕ → (List ℕ → Type 0) → Type 0
HoldsClasses files folder States = (path : List ℕ) × (bytes : List ℕ)
    × IsClassPath files folder path × files.Holds (FileNamed path) most_file_bytes bytes × States bytes

-- the file of this name in the folder was read whole, and its bytes state this
abbrev pub HoldsTable : FileFacts → List ℕ → List ℕ → (List ℕ → Type 0) → Type 0
HoldsTable files folder name States =
    (bytes : List ℕ) × files.Holds (FileNamed (in_folder folder name)) most_file_bytes bytes × States bytes

-- the tables are those that the bytes of the folder's three files state, each read whole
pub record AreTables (files : FileFacts) (folder : List ℕ) (tables : TablesOf) : Type 0 where
  pub class_path : List ℕ
  pub class_bytes : List ℕ
  pub class_path_given : IsClassPath files folder class_path
  pub class_file : files.Holds (FileNamed class_path) most_file_bytes class_bytes
  pub classes : StatesClasses class_bytes (class_by tables.classes)
  pub bracket_bytes : List ℕ
  pub bracket_file : files.Holds (FileNamed (in_folder folder bracket_name)) most_file_bytes bracket_bytes
  pub brackets : StatesBrackets bracket_bytes (bracket_by tables.brackets)
  pub mirror_bytes : List ℕ
  pub mirror_file : files.Holds (FileNamed (in_folder folder mirror_name)) most_file_bytes mirror_bytes
  pub mirrors : StatesMirrors mirror_bytes (mirror_by tables.mirrors)
