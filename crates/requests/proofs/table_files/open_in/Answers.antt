use Rattle.std.proofs.Common.{rules, ◌≡◌, ℕ, List, subst}
use Rattle.std.proofs.lemmas.Result.{IfErr-weaker}
use Rattle.requests.specs.ReadFiles.{FileNamed, in_folder, most_file_bytes}
use Rattle.requests.proofs.table_files.open_in.Goals as goal

pub returns-clause-cannot : goal.returns-clause-cannot
returns-clause-cannot g c =
    let same : c.as_str.result.now ≡ in_folder c.args.folder.now c.args.name.now = search rules in
    IfErr-weaker c.file.result _ _
    (λ fault rejects unread cannot.
    subst (λ (path : List ℕ). (g.F.Files.facts c.args.files.now).Rejects (FileNamed path) most_file_bytes unread)
    same (rejects unread cannot))
    c.file.ensures.cannot
