mod KeptLines
