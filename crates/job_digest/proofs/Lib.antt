mod JoinedFiles
