use Rattle.file_directory.proofs.reading.file_name.Goals as goal

pub returns-in-Err : goal.returns-in-Err
returns-in-Err c = c.no_name.ensures c.args.bytes.now c.in-Err.ensures
