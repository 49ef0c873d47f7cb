use Rattle.std.proofs.Common.{rules, tests, ◌≡◌, List, None, Some, Option, find, map, option_map, ap, subst, sym, ◌∙◌}
use Rattle.std.specs.Borrow.{Bor}
use Rattle.std.specs.Str.{bytes_eq}
use Rattle.std.proofs.lemmas.Iterator.{YieldsList-from_slice}
use Rattle.std.proofs.lemmas.Iterator.Search.{find_from_yields_List}
use Rattle.clap.proofs.WalkLemmas.{find-map}
use Rattle.command_tests.specs.MemoryFiles.{IsOpenedOver, Stored, StoredFile, stored_at, stored_file}
use Rattle.requests.specs.ReadFiles.{FileNamed}
use Rattle.command_tests.specs.declared.memory_files.MemoryFile.{MemoryFile}
use Rattle.command_tests.proofs.memory_files.MemoryFilesFiles.file.Goals as goal

stored : MemoryFile → StoredFile
stored file = stored_file file.name file.bytes file.readable

pub returns-in-Some-clause-opened : goal.returns-in-Some-clause-opened
unfolding stored
returns-in-Some-clause-opened c =
    let name = c.args.name.now in
    let files = c.self.inside.files.now in
    let first : option_map (λ (b : Bor MemoryFile). b.now) c.find.result ≡ find (λ (file : MemoryFile).
    bytes_eq file.name.now name) files =
    find_from_yields_List (λ (file : MemoryFile). bytes_eq file.name.now name) _ _ c.find.result c.find.ensures.ran
    (YieldsList-from_slice files cc) (λ x b q k. search (rules, tests)) in
    let is : c.find.result ≡ Some c.in-Some.file = search rules in
    let shown : map stored files ≡ c.args.self.now.files = ap (λ (s : Stored). s.files) c.self.view_is in
    let found : Some (stored c.in-Some.file.now) ≡ stored_at c.args.self.now (FileNamed name) =
    ap (option_map stored) (ap (option_map (λ (b : Bor MemoryFile). b.now)) (sym is) ∙ first)
    ∙ find-map (λ (file : StoredFile). bytes_eq file.name name) stored files
    ∙ ap (λ (all : List StoredFile). find (λ (file : StoredFile). bytes_eq file.name name) all) shown in
    let represents : IsOpenedOver (Some (stored c.in-Some.file.now)) c.args.most c.new.result =
    (c.new.ensures.reader, c.new.ensures.limit ∙ c.min.ensures, c.new.ensures.state) in
    subst (λ (file : Option StoredFile). IsOpenedOver file c.args.most c.new.result) found represents

pub returns-in-None-clause-cannot : goal.returns-in-None-clause-cannot
unfolding stored
returns-in-None-clause-cannot c =
    let name = c.args.name.now in
    let files = c.self.inside.files.now in
    let first : option_map (λ (b : Bor MemoryFile). b.now) c.find.result ≡ find (λ (file : MemoryFile).
    bytes_eq file.name.now name) files =
    find_from_yields_List (λ (file : MemoryFile). bytes_eq file.name.now name) _ _ c.find.result c.find.ensures.ran
    (YieldsList-from_slice files cc) (λ x b q k. search (rules, tests)) in
    let is : c.find.result ≡ None = search rules in
    let shown : map stored files ≡ c.args.self.now.files = ap (λ (s : Stored). s.files) c.self.view_is in
    let found : None ≡ stored_at c.args.self.now (FileNamed name) =
    ap (option_map stored) (ap (option_map (λ (b : Bor MemoryFile). b.now)) (sym is) ∙ first)
    ∙ find-map (λ (file : StoredFile). bytes_eq file.name name) stored files
    ∙ ap (λ (all : List StoredFile). find (λ (file : StoredFile). bytes_eq file.name name) all) shown in
    λ unread e. (sym found, search rules)
