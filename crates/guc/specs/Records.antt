-- A record's answers as C has them: the same figures, in a struct of C's layout.
use Rattle.record.specs.Calls as calls
use Rattle.guc.specs.declared.records.Added.{Added}
use Rattle.guc.specs.declared.records.Written.{Written}
use Rattle.guc.specs.declared.records.ReadBack.{ReadBack}

abbrev pub in_added : Added → calls.Added
in_added a = record { code = a.code; fault = a.fault; place = a.place }

abbrev pub in_written : Written → calls.Written
in_written w = record { code = w.code; fault = w.fault; at = w.at; written = w.written }

abbrev pub in_read : ReadBack → calls.ReadBack
in_read r = record { code = r.code; fault = r.fault; at = r.at; written = r.written; took = r.took }
