use Rattle.std.proofs.Common.{◌≡◌, None}
use Rattle.cg_line.specs.DecodeLaws.{kind_files}
use Rattle.cg_value.specs.Files.{File, KindFile}
use Rattle.cg_value.specs.Table.{read_form_of}
use Rattle.cg_source.proofs.Explaining.{explained_as}
use Rattle.cg_run.proofs.explained.explain_file.Goals as goal

pub returns-in-Ok : goal.returns-in-Ok
returns-in-Ok c =
    let profile = c.args.profile in
    let name = c.args.name.now in
    let kind = c.in-Ok.kind in
    explained_as (KindFile kind) (File profile name) (kind_files profile name kind c.in-Ok.ensures.readable) name c.args.bytes.now (read_form_of profile name ≡ None) c.explain_text.result
    (c.explain_text.ensures kind c.new-reader.ensures)
