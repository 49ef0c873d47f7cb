use Rattle.table_constants.proofs.BracketConstants.{brackets-AreStages, brackets-IsTableOf}
use Rattle.table_constants.proofs.ClassConstants.{classes-AreStages}
use Rattle.table_constants.proofs.MirrorConstants.{mirrors-AreStages}
use Rattle.table_constants.proofs.Together.{AreNeutral-of, StateTables-of}
use Rattle.standard.specs.declared.brackets.TheConstants.{SPANS}
use Rattle.standard.specs.declared.facts.TheConstants.{BRACKETS, CLASSES, MIRRORS}
use Rattle.standard.proofs.TestedBrackets.{bracket_stages, numbers, tested_brackets}
use Rattle.standard.proofs.TestedClasses.{class_stages, tested_classes}
use Rattle.standard.proofs.TestedMirrors.{mirror_stages, tested_mirrors}
use Rattle.standard.proofs.TestedTogether.{tested_neutral, tested_tables}
use Rattle.standard.proofs.tables.Goals as goal

pub of_constants-classes-requires : goal.of_constants-classes-requires
of_constants-classes-requires c = classes-AreStages CLASSES class_stages tested_classes

pub of_constants-brackets-requires-clause-stages : goal.of_constants-brackets-requires-clause-stages
of_constants-brackets-requires-clause-stages c =
    brackets-AreStages BRACKETS numbers SPANS bracket_stages tested_brackets

pub of_constants-brackets-requires-clause-spans : goal.of_constants-brackets-requires-clause-spans
of_constants-brackets-requires-clause-spans c = brackets-IsTableOf BRACKETS numbers SPANS bracket_stages tested_brackets

pub of_constants-mirrors-requires : goal.of_constants-mirrors-requires
of_constants-mirrors-requires c = mirrors-AreStages MIRRORS mirror_stages tested_mirrors

pub with_neutral_brackets-requires : goal.with_neutral_brackets-requires
with_neutral_brackets-requires c =
    AreNeutral-of class_stages bracket_stages tested_neutral c.of_constants-classes.result
    c.of_constants-brackets.result c.of_constants-classes.ensures c.of_constants-brackets.ensures

pub returns : goal.returns
returns c =
    StateTables-of class_stages bracket_stages mirror_stages CLASSES BRACKETS MIRRORS tested_tables
    c.of_constants-classes.result c.of_constants-brackets.result c.of_constants-mirrors.result
    c.with_neutral_brackets.result c.of_constants-classes.ensures c.of_constants-brackets.ensures
    c.of_constants-mirrors.ensures c.with_neutral_brackets.ensures
