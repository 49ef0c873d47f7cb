-- The letters of requested rows, and what is read for them.
use Rattle.std.proofs.Common.{◌≡◌, ℕ, List, Option, None, Some, map, subst, refl}
use Rattle.std.specs.Option.{option_map}
use Rattle.units.specs.declared.class.Class.{Class}
use Rattle.bidtests.specs.declared.kind.Kind.{Kind}
use Rattle.rows.specs.Letters.{letter_by}
use Rattle.rows.specs.declared.letter.Letter.{Letter}
use Rattle.rows.specs.declared.letter.Letter.TheVariants as letter
use Rattle.requests.specs.RowsPrinted.{chars_asked, classes_asked, letters_asked}
use Rattle.requests.specs.FileRows.{IsKindOfFile}
use Rattle.requests.specs.ReadFiles.{FileFacts}
use Rattle.requests.specs.Parts.{AreDone, alphabet_parts}
use Rattle.requests.specs.declared.request.FileKind.{FileKind}
use Rattle.requests.specs.declared.request.FileKind.TheVariants.{Classes, Characters}
use Rattle.requests.specs.declared.request.RowLetters.{RowLetters}
use Rattle.requests.specs.declared.request.RowLetters.TheVariants.{Alphabet, OfForm}
use Rattle.requests.specs.declared.request.TableSource.{TableSource}

mapped_some : {A B : Type 0} (f : A → B) (o : Option A) (y : B) → option_map f o ≡ Some y → (x : A) × (o ≡ Some x)
mapped_some f None y e = absurd (cc)
mapped_some f (Some x) y e = (x, refl)

pub classes_read : (letters : RowLetters) (classes : List Class) → classes_asked letters ≡ Some classes →
    AreDone (alphabet_parts Classes letters)
classes_read (Alphabet word) classes e = ((classes, e), tt)
classes_read (OfForm form) classes e = (tt, tt)

pub chars_read : (letters : RowLetters) (chars : List ℕ) → chars_asked letters ≡ Some chars →
    AreDone (alphabet_parts Characters letters)
chars_read (Alphabet word) chars e = ((chars, e), tt)
chars_read (OfForm form) chars e = tt

-- if there are letters, what is read for them is done
pub alphabet_done : (files : FileFacts) (k : FileKind) (source : TableSource) (kind : Kind) (letters : RowLetters)
    (xs : List Letter)
    → IsKindOfFile files k (Some source) kind → letters_asked kind letters ≡ Some xs →
    AreDone (alphabet_parts k letters)
alphabet_done files Classes source kind letters xs h e =
    let noted = subst (λ (r : Kind). letters_asked r letters ≡ Some xs) h e in
    let read = mapped_some (map letter.Class) (classes_asked letters) xs noted in
    classes_read letters read.0 read.1
alphabet_done files Characters source kind letters xs h e =
    let noted = subst (λ (r : Kind). letters_asked r letters ≡ Some xs) h.2 e in
    let read = mapped_some (map (letter_by h.0.now)) (chars_asked letters) xs noted in
    chars_read letters read.0 read.1
