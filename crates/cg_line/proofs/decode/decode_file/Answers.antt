use Rattle.cg_value.specs.Files.{File, KindFile}
use Rattle.cg_line.specs.DecodeLaws.{fault_as, kind_files}
use Rattle.cg_line.proofs.decode.decode_file.Goals as goal

pub returns-in-Err-read_file : goal.returns-in-Err-read_file
returns-in-Err-read_file c =
    let profile = c.args.profile in
    let name = c.args.name.now in
    let kind = c.in-Ok.kind in
    let bytes = c.args.bytes.now in
    let fault = c.in-Err-read_file.fault in
    c.file_fault.ensures profile name bytes (fault_as (KindFile kind) (File profile name) (kind_files profile name kind c.in-Ok.ensures.readable) bytes fault c.in-Err-read_file.ensures)
